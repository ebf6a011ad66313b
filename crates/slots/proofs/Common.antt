-- The words that proofs of this crate share, passed on from where they are defined.
pub use Rattle.atomic_table.proofs.Lists.{at_map, at_set, at_snoc, set_again}
pub use Rattle.atomic_table.specs.Seated.{TableId}
pub use Rattle.atomic_table.specs.Table.{Allows, Final, Joins, Me, Seen, Splits, State, keeps, opening, stepped}
pub use Rattle.atomic_table.specs.declared.shared.Seat.{Seat}
pub use Rattle.slots.specs.Machine.{Follows, IsLegal, Machine, MayReply, StoresMeet, Way, call, calls_by, fresh, machine_after, part, run, standing, stores}
pub use Rattle.slots.specs.Promise.{AddsHere, AllNew, Called, GateHad, GivenUp, Grew, HasCause, InOneOrder, IsNew, IsSeatOf, IsTaken, all_mine, all_seen, known, number, seen, slots_of, way_of}
pub use Rattle.slots.specs.Rule.{ClaimHolds, Claims, EachSeat, Fits, GateHolds, Glance, Had, Passed, ReadsHold, SlotHolds, StartsWith, StillRead, TableHolds, after_dealing, after_telling, blank, dealer, dealt, gate_at, glance, nobody, note, way_at, words_at, words_of}
pub use Rattle.slots.specs.Steps.{Adds, Along, Done, Ends, EndsBusy, HitFits, IsBusy, IsProbeReply, IsWhole, IsWorn, Lists, Recalls, Yields, begun, claimed, confirmed, counted, ended, halfway, looked, offered, published, read, written, zeros}
pub use Rattle.slots.specs.declared.calls.Act.{Act}
pub use Rattle.slots.specs.declared.calls.Act.TheVariants.{Asked, Offered}
pub use Rattle.slots.specs.declared.calls.Call.{Call}
pub use Rattle.slots.specs.declared.calls.Store.TheVariants.{Busy, Kept, Stored, Worn}
pub use Rattle.slots.specs.declared.views.Half.{Half}
pub use Rattle.slots.specs.declared.views.Half.TheVariants.{Idle, Reading, Writing}
pub use Rattle.slots.specs.declared.views.Note.{Note}
pub use Rattle.slots.specs.declared.views.View.{View}
pub use Rattle.std.proofs.lemmas.List.{length-append, length-replicate, take_all, take_more, take_more_set}
