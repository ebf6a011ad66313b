use Rattle.std.proofs.Common.{All, Option, ◌≡◌, ℕ, ◌-◌, [], subst, arith, string_bytes}
use Rattle.solution_text.proofs.Common.{PlainBoard, IsLawful, IsVirtualPlay, IsPlayText, one_after}
use Rattle.solution_text.specs.declared.posed.Posed.{Posed}
use Rattle.solution_text.proofs.Told.{no_set}
use Rattle.solution_text.proofs.virtual_play.refuted_text.Goals as goal

pub after-next-requires : goal.after-next-requires
after-next-requires g c = (c.requires.replies.0, c.requires.replies.1)

pub name-name-requires : goal.name-name-requires
name-name-requires g c = (c.requires.replies.0, c.requires.replies.1)

pub play_text-requires-clause-set : goal.play_text-requires-clause-set
play_text-requires-clause-set g c = no_set c.args.teller.now.set c.requires.set

pub play_text-requires-clause-over : goal.play_text-requires-clause-over
play_text-requires-clause-over g c =
    let (q, move, some, lawful) = c.requires.replies in
    let same = one_after c.args.root.now.board c.args.first q c.after-next.result move c.after-next.ensures in
    λ none. absurd (none some.0 (subst (λ (x : PlainBoard). IsLawful x some.0) same some.1))

pub refutations_text-requires : goal.refutations_text-requires
refutations_text-requires g c =
    let (q, move, some, lawful) = c.requires.replies in
    subst (λ (x : PlainBoard). All (IsLawful x) c.args.refutations.now) (one_after c.args.root.now.board c.args.first q c.after-next.result move c.after-next.ensures) lawful

pub returns-clause-refuted : goal.returns-clause-refuted
returns-clause-refuted g c =
    let r = c.args.root.now in
    let notation = c.args.teller.now.notation in
    let q = c.after-next.result in
    let text = string_bytes c.in_ok-play.play in
    let (then, is, told) = c.in_ok-play.ensures.play in
    let left : c.saturating_sub.result ≡ r.limit - 2 = omega (arith, c.saturating_sub.ensures) in
    let lines = subst (λ (at : ℕ × Option Posed). IsPlayText notation at.0 at.1 q [] then text) (λ i. (c.requires.number i, c.requires.set i)) told in (
      then,
      (q, c.after-next.ensures, subst (λ (k : ℕ). IsVirtualPlay notation.goal q k then) left is),
      (q, c.after-next.ensures, c.name-name.result, c.name-name.ensures, text, lines, string_bytes c.in_ok-last.last, c.in_ok-last.ensures, c.in_ok-format.ensures.ok),
    )
