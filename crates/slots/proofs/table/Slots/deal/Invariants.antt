use Rattle.std.proofs.Common.{◌≡◌, ◌+◌, ◌*◌, length, vec_len}
use Rattle.slots.specs.Promise.{AllNew}
use Rattle.slots.proofs.table.Slots.deal.Given as goal

abbrev pub invariant-loop : goal.invariant-loop
invariant-loop g l = record {
  same : l.first.table_id ≡ l.self;
  deals : l.first.me.0.deals ≡ l.counter + 1;
  room : 4 * length l.first.me.0.notes ≡ l.self.words;
  many : length l.seats.items ≡ l.counter;
  new : AllNew l.self l.seats.items;
  len : vec_len l.seats ≡ l.counter;
}
