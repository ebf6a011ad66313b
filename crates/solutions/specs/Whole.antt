-- The whole solution: after each move of the attacker what it threatens, and behind each reply what follows, to the end of the game.
use Rattle.std.specs.Prelude.{◌≡◌, ℕ, ◌-◌, ◌≤◌, List, [], ◌∷◌, Option, All, map}
use Rattle.board.specs.Board.{PlainBoard}
use Rattle.rules.specs.declared.goal.Goal.{Goal}
use Rattle.rules.specs.Squares.{Ply}
use Rattle.rules.specs.Reach.{IsSound}
use Rattle.rules.specs.Moves.{IsMove, IsLawful, IsStalemated}
use Rattle.rules.specs.Order.{ListsLawful}
use Rattle.rules.specs.Forces.{IsReached}
use Rattle.problems.specs.Answer.{Wins, IsFewest, ForcesNothing}
use Rattle.solutions.specs.declared.extras.Extras.{Extras}
use Rattle.solutions.specs.declared.first_try.Try.{Try}
use Rattle.solutions.specs.Lines.{ListsMoves, ListsContinuations, IsMet}
use Rattle.solutions.specs.Solutions.{passed, Refutes, IsTry, ListsTries, IsWhereAsked}

mutual
  -- a continuation, the other continuations, which are its duals, and the play behind it
  pub data Sequel : Type 0 where
    sequel : Ply → List Ply → Play → Sequel

  -- what an attacker's move threatens, and the replies with what follows them
  pub data Play : Type 0 where
    play : Threat → Sequels → Play

  -- nothing more, since the game is over; nothing, since there is check; zugzwang; moves that end the game at once; or a longer threat
  pub data Threat : Type 0 where
    over : Threat
    check : Threat
    zugzwang : Threat
    short : List Ply → Threat
    long : Sequel → Threat

  -- replies in order, each with its sequel
  pub data Sequels : Type 0 where
    done : Sequels
    more : Ply → Sequel → Sequels → Sequels

-- the replies alone
abbrev pub replies_in : Sequels → List Ply
replies_in done = []
replies_in (more r s others) = r ∷ replies_in others

abbrev mutual
  -- Where n plies are the fewest: the continuations are all moves that force the goal in n plies, and the play is that behind the first of them
  pub IsSequel : Goal → PlainBoard → ℕ → Sequel → Type 0
  IsSequel goal b n (sequel m duals then) =
      IsFewest goal b n × ListsContinuations goal b n (m ∷ duals) × ((q : PlainBoard) × IsMove b m q × IsPlay goal q (n - 2) then)

  -- behind a move that leads to q, with n plies left: its threat, and exactly the lawful replies, in order, each with its sequel
  pub IsPlay : Goal → PlainBoard → ℕ → Play → Type 0
  IsPlay goal q n (play threat replies) = IsThreat goal q n threat × ListsLawful q (replies_in replies) × AreSequels goal q replies

  -- What is threatened, if the defender were to pass: nothing where the goal is reached or there is check; zugzwang where the goal isn't forced within n plies;
  -- and else all continuations of the fewest plies, with the play behind the first of them where they don't end the game
  pub IsThreat : Goal → PlainBoard → ℕ → Threat → Type 0
  IsThreat goal q n over = IsReached goal q
  IsThreat goal q n check = (IsReached goal q → ⊥) × (IsSound (passed q) → ⊥)
  IsThreat goal q n zugzwang = (IsReached goal q → ⊥) × IsSound (passed q) × ForcesNothing goal (passed q) n
  IsThreat goal q n (short moves) =
      (IsReached goal q → ⊥) × IsSound (passed q) × (1 ≤ n) × IsFewest goal (passed q) 1 × ListsContinuations goal (passed q) 1 moves
  IsThreat goal q n (long s) =
      (IsReached goal q → ⊥) × IsSound (passed q) × ((k : ℕ) × (2 ≤ k) × (k ≤ n) × IsSequel goal (passed q) k s)

  -- behind each reply its sequel follows
  pub AreSequels : Goal → PlainBoard → Sequels → Type 0
  AreSequels goal q done = Unit {0}
  AreSequels goal q (more r s others) = ((p : PlainBoard) × IsMove q r p × ((k : ℕ) × IsSequel goal p k s)) × AreSequels goal q others

-- a key with the play behind it
abbrev pub IsPlayedKey : Goal → PlainBoard → ℕ → Ply × Play → Type 0
IsPlayedKey goal b n (m, then) = (q : PlainBoard) × IsMove b m q × IsPlay goal q (n - 2) then

-- virtual play, behind a move that leads to q, with n plies left: its threat, and exactly the replies that are met within these, in order, each with its sequel
abbrev pub IsVirtualPlay : Goal → PlainBoard → ℕ → Play → Type 0
IsVirtualPlay goal q n (play threat replies) =
    IsThreat goal q n threat × ListsMoves q.game (IsMet goal q n) (replies_in replies) × AreSequels goal q replies

-- a try with the virtual play behind it
abbrev pub IsPlayedTry : Goal → PlainBoard → ℕ → Try × Play → Type 0
IsPlayedTry goal b n (t, then) = IsTry goal b n t × ((q : PlainBoard) × IsMove b t.first q × IsVirtualPlay goal q (n - 2) then)

-- exactly the tries, in order, each with the play behind it
pub record ListsPlayedTries (goal : Goal) (b : PlainBoard) (n : ℕ) (tries : List (Try × Play)) : Type 0 where
  pub tried : ListsTries goal b n (map (λ t. t.0) tries)
  pub each : All (IsPlayedTry goal b n) tries

-- what follows a first move that is given: a key's play; the virtual play behind another move, and the replies that refute it; or stalemate
pub data FirstPlay : Type 0 where
  key : Play → FirstPlay
  refuted : Play → List Ply → FirstPlay
  stalemate : FirstPlay

-- Where n plies are the fewest: the move is a key, with its play; or it is none and leaves replies, with its virtual play and exactly those that
-- refute it, in order; or it stalemates, where that isn't the goal
abbrev pub IsPlayedFirst : Goal → PlainBoard → ℕ → Ply → FirstPlay → Type 0
IsPlayedFirst goal b n m (key then) = Wins goal b n m × IsPlayedKey goal b n (m, then)
IsPlayedFirst goal b n m (refuted then refutations) =
    (Wins goal b n m → ⊥)
    × ((q : PlainBoard) × IsMove b m q × ((r : Ply) × IsLawful q r)
    × IsVirtualPlay goal q (n - 2) then × ListsMoves q.game (Refutes goal q (n - 2)) refutations)
IsPlayedFirst goal b n m stalemate = (q : PlainBoard) × IsMove b m q × IsStalemated q × (IsReached goal q → ⊥)

-- the set play: after a pass, exactly the replies that are met within n - 2 plies, in order, each with its sequel; none where the pass isn't sound
pub record IsWholeSetPlay (goal : Goal) (b : PlainBoard) (n : ℕ) (replies : Sequels) : Type 0 where
  pub met : IsSound (passed b) → ListsMoves b.game (IsMet goal (passed b) (n - 2)) (replies_in replies)
  pub each : IsSound (passed b) → AreSequels goal (passed b) replies
  pub unsound : (IsSound (passed b) → ⊥) → replies ≡ done

-- the fewest plies, the keys with their play, and the set play and the tries with theirs where they were asked for
pub record Whole : Type 0 where
  pub plies : ℕ
  pub keys : List (Ply × Play)
  pub set_play : Option Sequels
  pub tries : Option (List (Try × Play))

-- it is so of the position, where the keys are exactly the moves that force the goal in the fewest plies, in order
pub record IsComplete (goal : Goal) (b : PlainBoard) (extras : Extras) (w : Whole) : Type 0 where
  pub plies : IsFewest goal b w.plies
  pub firsts : ListsContinuations goal b w.plies (map (λ k. k.0) w.keys)
  pub keys : All (IsPlayedKey goal b w.plies) w.keys
  pub set_play : IsWhereAsked (IsWholeSetPlay goal b w.plies) extras.set_play w.set_play
  pub tries : IsWhereAsked (ListsPlayedTries goal b w.plies) extras.tries w.tries
