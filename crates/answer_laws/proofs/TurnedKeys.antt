-- Answers and keys of a turned board.
use Rattle.std.proofs.Common.{◌≡◌, ℕ, ◌-◌, Some, refl, sym, ap, subst, Contains}
use Rattle.board.specs.Board.{PlainBoard}
use Rattle.rules.specs.declared.goal.Goal.{Goal}
use Rattle.rules.specs.Squares.{Ply}
use Rattle.rules.specs.Moves.{IsMove}
use Rattle.rules.specs.Forces.{Forces}
use Rattle.problems.specs.declared.answer.Answer.TheVariants.{Mate, NoneWithin}
use Rattle.problems.specs.Answer.{Wins, IsFewest, ForcesNothing}
use Rattle.problems.specs.declared.key.Key.{Key}
use Rattle.problems.specs.Keys.{Takes}
use Rattle.laws.specs.Turnings.{Turning, turned_move, IsTurned, MayTurn}
use Rattle.laws.proofs.Squares.{back_of, back_of-twice}
use Rattle.laws.proofs.Turned.{IsTurned-back, MayTurn-back}
use Rattle.laws.proofs.Play.{MayTurn-move, IsMove-turned}
use Rattle.laws.proofs.Forced.{there_again, Forces-turned, Forces-back, Forces-mover}
use Rattle.answer_laws.specs.Turned.{SamePlies, turned_key, KeysTurned}
use Rattle.answer_laws.proofs.OneAnswer.{one_fewest}

module _ (t : Turning) (b c : PlainBoard) (turned : IsTurned t b c) (may : MayTurn t b) where
  mover_back : (goal : Goal) (n : ℕ) → Forces goal c.mover c n → Forces goal b.mover b n
  mover_back goal n f = Forces-back n t goal b.mover b c turned may (subst (λ side. Forces goal side c n) turned.mover f)

  pub fewest_turned : (goal : Goal) (n : ℕ) → IsFewest goal b n → IsFewest goal c n
  fewest_turned goal n is = record {
    forced = Forces-mover goal n t b c turned may is.forced;
    fewer = λ k less f. is.fewer k less (mover_back goal k f);
  }

  pub nothing_turned : (goal : Goal) (limit : ℕ) → ForcesNothing goal b limit → ForcesNothing goal c limit
  nothing_turned goal limit none n within f = none n within (mover_back goal n f)

  pub same_plies : SamePlies b c
  same_plies goal limit (Mate n l) (Mate k m) x y = ap Some (one_fewest goal c n k (fewest_turned goal n x.1) y.1)
  same_plies goal limit (Mate n l) (NoneWithin k) x y = absurd (y.1 n x.0 (fewest_turned goal n x.1).forced)
  same_plies goal limit (NoneWithin k) (Mate n l) x y = absurd (nothing_turned goal limit x.1 n y.0 y.1.forced)
  same_plies goal limit (NoneWithin k) (NoneWithin n) x y = refl

  wins_turned : (goal : Goal) (n : ℕ) (m : Ply) → Wins goal b n m → Wins goal c n (turned_move b.game t m)
  wins_turned goal n m (q, move, f) =
      let found = IsMove-turned t b c turned may m q move in (
        found.0,
        found.1,
        subst (λ side. Forces goal side found.0 (n - 1)) (sym turned.mover)
            (Forces-turned (n - 1) t goal b.mover q found.0 found.2 (MayTurn-move t b c turned may m q move) f),
      )

  -- a move, turned there and back
  pub back_again : (m : Ply) (q : PlainBoard) → IsMove b m q → turned_move c.game (back_of t) (turned_move b.game t m) ≡ m
  back_again m q move = subst (λ u. turned_move c.game (back_of t) (turned_move b.game u m) ≡ m) (back_of-twice t)
      (there_again (back_of t) c b (IsTurned-back t b c turned) (MayTurn-back t b c turned may) m q move)

pub takes_turned : (t : Turning) (b c : PlainBoard) → IsTurned t b c → MayTurn t b → (goal : Goal) (n : ℕ) (m : Ply) → Takes goal b n m → Takes goal c n (turned_move b.game t m)
takes_turned t b c turned may goal n m takes = record {
  some = takes.some;
  wins = wins_turned t b c turned may goal n m takes.wins;
  fewer = λ k any less won. takes.fewer k any less
      (subst (Wins goal b k) (back_again t b c turned may m takes.wins.0 takes.wins.1)
      (wins_turned (back_of t) c b (IsTurned-back t b c turned) (MayTurn-back t b c turned may) goal k (turned_move b.game t m) won));
}

pub keys_turned : (t : Turning) (b c : PlainBoard) → IsTurned t b c → MayTurn t b → KeysTurned t b c
keys_turned t b c turned may goal limit keys others lists also other = (back, there)
  where
    there : ((key : Key) × Contains keys key × (turned_key b.game t key ≡ other)) → Contains others other
    there (key, among, e) =
        let is = (lists.exact key).0 among in
        subst (Contains others) e ((also.exact (turned_key b.game t key)).1 (is.0, takes_turned t b c turned may goal key.plies key.first is.1))

    back : Contains others other → (key : Key) × Contains keys key × (turned_key b.game t key ≡ other)
    back among =
        let is = (also.exact other).0 among in
        let first : Ply = turned_move c.game (back_of t) other.first in
        let key : Key = record { first = first; plies = other.plies } in
        let takes : Takes goal b other.plies first = takes_turned (back_of t) c b (IsTurned-back t b c turned) (MayTurn-back t b c turned may) goal other.plies other.first is.1 in
        let again : turned_move b.game t first ≡ other.first = there_again t b c turned may other.first is.1.wins.0 is.1.wins.1 in
        (key, (lists.exact key).1 (is.0, takes), λ i. record { first = again i; plies = other.plies })
