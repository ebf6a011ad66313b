-- What a composer publishes of a problem. The attacker is the side to move at first, and n plies are the fewest that force the goal.
use Rattle.std.specs.Prelude.{◌≡◌, ℕ, ◌-◌, ◌≤◌, List, [], Option, Some, None, Bool, true, false, All, map}
use Rattle.board.specs.Games.{other_side}
use Rattle.board.specs.Board.{PlainBoard}
use Rattle.rules.specs.declared.goal.Goal.{Goal}
use Rattle.rules.specs.Squares.{Ply}
use Rattle.rules.specs.Reach.{IsSound}
use Rattle.rules.specs.Moves.{IsMove}
use Rattle.rules.specs.Order.{ListsLawful}
use Rattle.rules.specs.Forces.{IsReached, Forces}
use Rattle.problems.specs.Answer.{Wins, IsFewest, ForcesNothing}
use Rattle.solutions.specs.declared.extras.Extras.{Extras}
use Rattle.solutions.specs.declared.threats.Threats.{Threats}
use Rattle.solutions.specs.declared.threats.Threats.TheVariants.{End, Check, Zugzwang, Moves}
use Rattle.solutions.specs.declared.variation.Variation.{Variation}
use Rattle.solutions.specs.declared.key_play.KeyPlay.{KeyPlay}
use Rattle.solutions.specs.declared.first_try.Try.{Try}
use Rattle.solutions.specs.declared.solution.Solution.{Solution}
use Rattle.solutions.specs.Lines.{ListsMoves, ListsContinuations, IsMet, IsBestLine}

-- the same board with the other side to move
abbrev pub passed : PlainBoard → PlainBoard
passed b = record { game = b.game; mover = other_side b.mover; units = b.units }

-- What a key threatens that leads to q, with n plies left: nothing more where it reaches the goal, and nothing where it gives check; zugzwang where the goal
-- isn't forced within n plies after a pass; and else all continuations there
abbrev pub AreThreats : {A : Type 0} → Goal → PlainBoard → ℕ → Threats A → Type 0
AreThreats goal q n End = IsReached goal q
AreThreats goal q n Check = (IsReached goal q → ⊥) × (IsSound (passed q) → ⊥)
AreThreats goal q n Zugzwang = (IsReached goal q → ⊥) × IsSound (passed q) × ForcesNothing goal (passed q) n
AreThreats goal q n (Moves k moves) =
    (IsReached goal q → ⊥) × IsSound (passed q) × (k ≤ n) × IsFewest goal (passed q) k × ListsContinuations goal (passed q) k moves.items

-- the variation says of a position the fewest plies, all continuations and the best line
pub record TellsVariation {A : Type 0} (goal : Goal) (p : PlainBoard) (v : Variation A) : Type 0 where
  pub plies : IsFewest goal p v.plies
  pub moves : ListsContinuations goal p v.plies v.moves.items
  pub line : IsBestLine goal p v.plies v.line.items

-- the variation says so of the position behind its reply
abbrev pub IsVariation : {A : Type 0} → Goal → PlainBoard → Variation A → Type 0
IsVariation goal q v = (p : PlainBoard) × IsMove q v.reply p × TellsVariation goal p v

-- the replies of variations
abbrev pub variation_replies : {A : Type 0} → List (Variation A) → List Ply
variation_replies variations = map (λ v. v.reply) variations

-- the variations of exactly the replies that are met within n plies, in order
pub record ListsVariations {A : Type 0} (goal : Goal) (q : PlainBoard) (n : ℕ) (variations : List (Variation A)) : Type 0 where
  pub replies : ListsMoves q.game (IsMet goal q n) (variation_replies variations)
  pub each : All (IsVariation goal q) variations

-- a key's threats, and a variation for each lawful reply, in order
pub record IsKeyPlay {A : Type 0} (goal : Goal) (b : PlainBoard) (n : ℕ) (k : KeyPlay A) : Type 0 where
  pub after : PlainBoard
  pub move : IsMove b k.first after
  pub threats : AreThreats goal after (n - 2) k.threats
  pub replies : ListsLawful after (variation_replies k.variations.items)
  pub variations : All (IsVariation goal after) k.variations.items

-- exactly the keys, in order, each with its play
pub record ListsKeyPlays {A : Type 0} (goal : Goal) (b : PlainBoard) (n : ℕ) (keys : List (KeyPlay A)) : Type 0 where
  pub firsts : ListsContinuations goal b n (map (λ k. k.first) keys)
  pub each : All (IsKeyPlay goal b n) keys

-- the set play: after a pass, the variations of the replies that are met within n - 2 plies; none where the pass isn't sound
pub record IsSetPlay {A : Type 0} (goal : Goal) (b : PlainBoard) (n : ℕ) (variations : List (Variation A)) : Type 0 where
  pub sound : IsSound (passed b) → ListsVariations goal (passed b) (n - 2) variations
  pub unsound : (IsSound (passed b) → ⊥) → variations ≡ []

-- behind the reply the attacker doesn't force the goal within n plies
abbrev pub Refutes : Goal → PlainBoard → ℕ → Ply → Type 0
Refutes goal q n r = (p : PlainBoard) × IsMove q r p × (Forces goal p.mover p n → ⊥)

-- it alone refutes
pub record RefutesAlone (goal : Goal) (q : PlainBoard) (n : ℕ) (r : Ply) : Type 0 where
  pub refutes : Refutes goal q n r
  pub only : (s : Ply) → Refutes goal q n s → s ≡ r

-- a try of a problem of several moves: a first move that is no key, and the one reply that refutes it
pub record IsTry (goal : Goal) (b : PlainBoard) (n : ℕ) (t : Try) : Type 0 where
  pub several : 2 ≤ n
  pub after : PlainBoard
  pub move : IsMove b t.first after
  pub no_key : Wins goal b n t.first → ⊥
  pub refutation : RefutesAlone goal after (n - 2) t.refutation

-- exactly the tries, in order
pub record ListsTries (goal : Goal) (b : PlainBoard) (n : ℕ) (tries : List Try) : Type 0 where
  pub firsts : ListsMoves b.game (λ m. (r : Ply) × IsTry goal b n (record { first = m; refutation = r })) (map (λ t. t.first) tries)
  pub each : All (IsTry goal b n) tries

-- what was asked for is there and is so, and what wasn't is absent
abbrev pub IsWhereAsked : {X : Type 0} → (X → Type 0) → Bool → Option X → Type 0
IsWhereAsked P true (Some x) = P x
IsWhereAsked P true None = ⊥
IsWhereAsked P false (Some x) = ⊥
IsWhereAsked P false None = Unit {0}

-- the solution: the fewest plies, the keys with their play, and the set play and the tries where they were asked for
pub record IsSolution {A : Type 0} (goal : Goal) (b : PlainBoard) (extras : Extras) (s : Solution A) : Type 0 where
  pub plies : IsFewest goal b s.plies
  pub keys : ListsKeyPlays goal b s.plies s.keys.items
  pub set_play : IsWhereAsked (λ list. IsSetPlay goal b s.plies list.items) extras.set_play s.set_play
  pub tries : IsWhereAsked (λ list. ListsTries goal b s.plies list.items) extras.tries s.tries
