-- Whether a move is lawful doesn't depend on what a pawn becomes.
use Rattle.moves.proofs.Common.{◌≡◌, ℕ, ◌+◌, ◌^◌, ◌<◌, arith, refl, sym, ap, subst, ◌∙◌, ◌⊎◌, ◌↔◌, inl, inr, Option, Some, None, Bool, IsSome, IfSome, IsTrue, IsPromotion, via, same_Some, cases_eq, Game, Side, White, Black, Kind, King, Queen, Rook, Bishop, Knight, Pawn, Man, Step, width_of, other_side, PlainBoard, IsPosition, Place, Ply, IsOnBoard, unit_at, Leads, Reaches, IsAttacked, IsInCheck, once, again, IsLastRank, Promotes, IsSomeKing, IsPseudoLegal, IsLawful, placed, after, cell_of, place_in, Has, IsTarget, IsPinned, IsNamed, HasSafe, IsCalm, place_in-cell_of, lowest-has, IsRankAhead, to_on_board, own_or_other, cases_Bool, is_king, false≢true}
use Rattle.moves.proofs.KingSteps.{attacked_then, steps_safely}
use Rattle.moves.proofs.Laying.{unit_at-to, unit_at-from, unit_at-other}
use Rattle.moves.proofs.Looking.{carried}
use Rattle.moves.proofs.Kings.{king_of, check_from}
use Rattle.moves.proofs.Shadows.{pinned_attacks}
use Rattle.moves.proofs.Pins.{place_cases, promotes_no_king, no_unit, stays_safe}
use Rattle.moves.proofs.Guarding.{king_kind}
use Rattle.moves.proofs.AtOnce.{pseudo_by, move_by}
use Rattle.moves.proofs.Checking.{IsTarget-move}

-- the rank before a side's last
abbrev pub IsBeforeLast : Game → Side → ℕ → Type 0
IsBeforeLast g White rank = rank + 2 ≡ width_of g
IsBeforeLast g Black rank = rank ≡ 1

-- the move with another promotion
abbrev pub becoming : Ply → Option Kind → Ply
becoming m o = record { from = m.from; to = m.to; promotion = o }

-- a promotion that is named well
pub well_named : (b : PlainBoard) (m : Ply) (u : Man) (well : Bool) (g : Game) → g ≡ b.game → (IsTrue well ↔ ((IsSome m.promotion ↔ Promotes g u m.to) × IfSome m.promotion (IsPromotion g))) → IsTrue well ↔ IsNamed b.game u m
well_named b m u well g same h =
    via (subst (λ (x : Game). IsTrue well ↔ ((IsSome m.promotion ↔ Promotes x u m.to) × IfSome m.promotion (IsPromotion x))) same h)
    (λ w. record { named = w.0; allowed = w.1 }, λ n. (n.named, n.allowed))

king_cases : (k : Kind) → (k ≡ King) ⊎ (k ≡ King → ⊥)
king_cases k = elim (cases_Bool (is_king k)) [ inl king ↦ inl (king_kind k king) | inr piece ↦ inr (λ e. false≢true (sym piece ∙ ap is_king e)) ]

pub not_named : (o : Option Kind) → (IsSome o → ⊥) → o ≡ None
not_named None never = refl
not_named (Some k) never = absurd (never refl)

-- a king names no promotion
king_unnamed : (b : PlainBoard) (m : Ply) (u : Man) → IsPseudoLegal b m u → u.kind ≡ King → m.promotion ≡ None
king_unnamed b m u p king = not_named m.promotion (λ s. cc (sym king ∙ (p.named.0 s).0))

module _ (b : PlainBoard) (m : Ply) (o : Option Kind) (u : Man) (is : IsPosition b) (p : IsPseudoLegal b m u) (q : IsPseudoLegal b (becoming m o) u) where
  -- but for the to-square both boards have the same units
  same_at : (s : Place) → IsOnBoard b.game s → (s ≡ m.to → ⊥) → unit_at (after b (becoming m o) u) s ≡ unit_at (after b m u) s
  same_at s on far = elim (place_cases b.game s m.from on p.on_board) [
    | inl same ↦ ap (unit_at (after b (becoming m o) u)) same ∙ unit_at-from b (becoming m o) u is q ∙ sym (ap (unit_at (after b m u)) same ∙ unit_at-from b m u is p)
    | inr apart ↦ unit_at-other b (becoming m o) u is q s on apart far ∙ sym (unit_at-other b m u is p s on apart far)
  ]

  -- so the same squares are free to walk over
  same_walk : (side : Side) (step : Step) (s t : Place) → Leads (after b (becoming m o) u) side step s t → Leads (after b m u) side step s t
  same_walk side step s t (once on a) = once on a
  same_walk side step s t (again {u = v} r on a empty l) =
      let far : v ≡ m.to → ⊥ = λ e. no_unit (sym empty ∙ ap (unit_at (after b (becoming m o) u)) e ∙ unit_at-to b (becoming m o) u is q) in
      again r on a (sym (same_at v on far) ∙ empty) (same_walk side step v t l)

  piece_checked : (u.kind ≡ King → ⊥) → IsInCheck (after b (becoming m o) u) b.mover → IsInCheck (after b m u) b.mover
  piece_checked piece (t, check) =
      let next = after b (becoming m o) u in
      let far : t ≡ m.to → ⊥ = λ e.
      promotes_no_king b.game o u.kind q.allowed piece (ap (λ (x : Man). x.kind) (same_Some (placed u (becoming m o)) _ (sym (unit_at-to b (becoming m o) u is q) ∙ sym (ap (unit_at next) e) ∙ check.king))) in
      let s = check.attacked.0 in
      let a = check.attacked.1 in
      let away : s ≡ m.to → ⊥ = λ e.
      let man : a.unit ≡ placed u (becoming m o) = same_Some a.unit _ (sym a.stands ∙ ap (unit_at next) e ∙ unit_at-to b (becoming m o) u is q) in
      own_or_other b.mover (sym q.owner ∙ sym (ap (λ (x : Man). x.side) man) ∙ a.owner) in (
        t,
        record {
          on_board = check.on_board;
          king = sym (same_at t check.on_board far) ∙ check.king;
          attacked = (s, carried next (after b m u) (other_side b.mover) s t s t a a.on_board a.reaches.played (sym (same_at s a.on_board away) ∙ a.stands) (same_walk a.unit.side a.reaches.step s t a.reaches.reaches.leads));
        },
      )

  -- the king is in check after both moves or after neither
  same_check : IsInCheck (after b (becoming m o) u) b.mover → IsInCheck (after b m u) b.mover
  same_check check = elim (king_cases u.kind) [
    | inr piece ↦ piece_checked piece check
    | inl king ↦
        let same : o ≡ m.promotion = king_unnamed b (becoming m o) u q king ∙ sym (king_unnamed b m u p king) in
        subst (λ x. IsInCheck (after b (becoming m x) u) b.mover) same check
  ]

-- a unit's moves between two squares are all lawful or none is
pub lawful_too : (b : PlainBoard) (m n : Ply) (u : Man) → IsPosition b → unit_at b m.from ≡ Some u → n.from ≡ m.from → n.to ≡ m.to → IsNamed b.game u n → IsLawful b m → IsLawful b n
lawful_too b m n u is stands from to named l =
    let p = pseudo_by b m u stands l in
    let o = n.promotion in
    let q : IsPseudoLegal b (becoming m o) u = record {
      on_board = p.on_board;
      stands = p.stands;
      owner = p.owner;
      reaches = p.reaches;
      no_king = p.no_king;
      named = subst (λ t. IsSome o ↔ Promotes b.game u t) to named.named;
      allowed = named.allowed;
    } in
    let same : becoming m o ≡ n = λ i. record { from = sym from i; to = sym to i; promotion = o } in
    subst (IsLawful b) same (after b (becoming m o) u, record { unit = u; pseudo = q; leads = refl; safe = λ check. (move_by b m u stands l).safe (same_check b m o u is p q check) })

-- a named move of the mover's unit to a square that it reaches, where no king stands
pub pseudo_named : (b : PlainBoard) (m : Ply) (u : Man) (s : Place) (i : ℕ) → IsOnBoard b.game s → unit_at b s ≡ Some u → u.side ≡ b.mover → IsTarget b u s i → (IsSomeKing (unit_at b (place_in i)) → ⊥) → m.from ≡ s → m.to ≡ place_in i → IsNamed b.game u m → IsPseudoLegal b m u
pseudo_named b m u s i on stands owner target no_king from to named = record {
  on_board = subst (IsOnBoard b.game) (sym from) on;
  stands = ap (unit_at b) from ∙ stands;
  owner = owner;
  reaches = subst (λ t. Reaches b u m.from t (unit_at b t)) (sym to) (subst (λ x. Reaches b u x (place_in i) (unit_at b (place_in i))) (sym from) target.1);
  no_king = λ there. no_king (subst (λ t. IsSomeKing (unit_at b t)) to there);
  named = named.named;
  allowed = named.allowed;
}

-- a unit that isn't pinned, where its own king isn't in check
module _ (b : PlainBoard) (u : Man) (s k : Place) (is : IsPosition b) (on : IsOnBoard b.game s) (stands : unit_at b s ≡ Some u) (owner : u.side ≡ b.mover) (piece : u.kind ≡ King → ⊥)
    (on_k : IsOnBoard b.game k) (king : unit_at b k ≡ king_of b.mover) (unchecked : IsInCheck b b.mover → ⊥) (free : IsPinned b b.mover k s → ⊥) where
  -- moves lawfully wherever it reaches no king
  pub free_lawful : (i : ℕ) → IsTarget b u s i → (IsSomeKing (unit_at b (place_in i)) → ⊥) → (m : Ply) → m.from ≡ s → m.to ≡ place_in i → IsNamed b.game u m → IsLawful b m
  free_lawful i target no_king m from to named =
      let p = pseudo_named b m u s i on stands owner target no_king from to named in
      let loose : IsPinned b b.mover k m.from → ⊥ = λ pin. free (subst (IsPinned b b.mover k) from pin) in
      (after b m u, record { unit = u; pseudo = p; leads = refl; safe = λ check. unchecked (stays_safe b m u is p piece k on_k king loose check) })

  pub free_safe : (set : ℕ) → ((i : ℕ) → Has set i ↔ (IsTarget b u s i × (IsSomeKing (unit_at b (place_in i)) → ⊥))) → HasSafe b u s set
  free_safe set has = record {
    cells = λ i h. ((has i).0 h).0;
    lawful = λ i m h. let w = (has i).0 h in free_lawful i w.0 w.1 m;
    all = λ m from l.
        let p = pseudo_by b m u (ap (unit_at b) from ∙ stands) l in
        (has (cell_of m.to)).1 (
          subst (λ x. IsTarget b u x (cell_of m.to)) from (IsTarget-move b m u p),
          λ there. p.no_king (subst (λ x. IsSomeKing (unit_at b x)) (place_in-cell_of b.game m.to (to_on_board b m u p)) there),
        );
  }

-- a lawful move names its promotion well
pub lawful_named : (b : PlainBoard) (m : Ply) (u : Man) → unit_at b m.from ≡ Some u → IsLawful b m → IsNamed b.game u m
lawful_named b m u stands l = let p = pseudo_by b m u stands l in record { named = p.named; allowed = p.allowed }

-- a pawn comes to its last rank from the one before it
pub last_next : (g : Game) (side : Side) (from to : ℕ) → IsRankAhead side from to → IsLastRank g side to ↔ IsBeforeLast g side from
last_next g White from to h = ((λ e. omega (arith, e, h)), (λ e. omega (arith, e, h)))
last_next g Black from to h = ((λ e. omega (arith, e, h)), (λ e. omega (arith, e, h)))

-- ---- some move to a cell of the set

pawn_cases : (k : Kind) → (k ≡ Pawn) ⊎ (k ≡ Pawn → ⊥)
pawn_cases King = inr (λ e. cc)
pawn_cases Queen = inr (λ e. cc)
pawn_cases Rook = inr (λ e. cc)
pawn_cases Bishop = inr (λ e. cc)
pawn_cases Knight = inr (λ e. cc)
pawn_cases Pawn = inl refl

last_cases : (g : Game) (side : Side) (rank : ℕ) → IsLastRank g side rank ⊎ (IsLastRank g side rank → ⊥)
last_cases g White rank = cases_eq (rank + 1) (width_of g)
last_cases g Black rank = cases_eq rank 0

due_cases : (g : Game) (u : Man) (t : Place) → Promotes g u t ⊎ (Promotes g u t → ⊥)
due_cases g u t = elim (pawn_cases u.kind) [
  | inr piece ↦ inr (λ p. piece p.0)
  | inl pawn ↦ elim (last_cases g u.side t.rank) [ inl last ↦ inl (pawn, last) | inr far ↦ inr (λ p. far p.1) ]
]

-- between two squares there is a move that names its promotion well
pub named_move : (g : Game) (u : Man) (s t : Place) → (m : Ply) × (m.from ≡ s) × (m.to ≡ t) × IsNamed g u m
named_move g u s t = elim (due_cases g u t) [
  | inl due ↦ (record { from = s; to = t; promotion = Some Queen }, refl, refl, record { named = ((λ _. due), λ _. refl); allowed = tt })
  | inr not ↦ (record { from = s; to = t; promotion = None }, refl, refl, record { named = ((λ e. cc), λ p. absurd (not p)); allowed = tt })
]

pub some_safe : (b : PlainBoard) (u : Man) (s : Place) (set : ℕ) → HasSafe b u s set → set < 2 ^ 64 → (set ≡ 0 → ⊥) → (m : Ply) × IsLawful b m
some_safe b u s set safe fits some =
    let (i, h) = lowest-has set fits some in
    let (m, from, to, named) = named_move b.game u s (place_in i) in
    (m, safe.lawful i m h from to named)

-- ---- a step of the king

module _ (b : PlainBoard) (u : Man) (s : Place) (i : ℕ) (is : IsPosition b) (king : u.kind ≡ King) (owner : u.side ≡ b.mover) (stands : unit_at b s ≡ Some u) where
  pub calm_lawful : (IsPinned b b.mover (place_in i) s → ⊥) → IsOnBoard b.game s → IsTarget b u s i → IsCalm b (place_in i) u.side → (m : Ply) → m.from ≡ s → m.to ≡ place_in i → IsNamed b.game u m → IsLawful b m
  calm_lawful free on target calm m from to named =
      let p = pseudo_named b m u s i on stands owner target calm.no_king from to named in
      let none : IsAttacked b m.to (other_side b.mover) → ⊥ = λ a. calm.safe (subst (λ x. IsAttacked b x (other_side u.side)) to (subst (λ x. IsAttacked b m.to (other_side x)) (sym owner) a)) in
      let loose : IsPinned b b.mover m.to m.from → ⊥ = λ w. free (subst (λ x. IsPinned b b.mover x s) to (subst (IsPinned b b.mover m.to) from w)) in
      (after b m u, record { unit = u; pseudo = p; leads = refl; safe = steps_safely b m u is p king loose none })

  pub lawful_calm : (m : Ply) → m.from ≡ s → m.to ≡ place_in i → IsLawful b m → IsCalm b (place_in i) u.side
  lawful_calm m from to l =
      let at : unit_at b m.from ≡ Some u = ap (unit_at b) from ∙ stands in
      let p = pseudo_by b m u at l in
      record {
        no_king = λ there. p.no_king (subst (λ x. IsSomeKing (unit_at b x)) (sym to) there);
        safe = λ a.
            let here : IsAttacked b m.to (other_side b.mover) = subst (λ x. IsAttacked b m.to (other_side x)) owner (subst (λ x. IsAttacked b x (other_side u.side)) (sym to) a) in
            (move_by b m u at l).safe (attacked_then b m u is p king here);
      }

module _ (b : PlainBoard) (u : Man) (s : Place) (is : IsPosition b) (king : u.kind ≡ King) (owner : u.side ≡ b.mover) (stands : unit_at b s ≡ Some u) (set : ℕ)
    (are : (i : ℕ) → Has set i ↔ (IsTarget b (record { side = u.side; kind = King }) s i × IsCalm b (place_in i) u.side)) where
  pub calm_target : (i : ℕ) → Has set i → IsTarget b u s i
  calm_target i h = let man : record { side = u.side; kind = King } ≡ u = λ k. record { side = u.side; kind = sym king k } in subst (λ x. IsTarget b x s i) man ((are i).0 h).0

  -- the king moves to calm cells alone
  pub calm_all : (m : Ply) → m.from ≡ s → IsLawful b m → Has set (cell_of m.to)
  calm_all m from l =
      let at : unit_at b m.from ≡ Some u = ap (unit_at b) from ∙ stands in
      let p = pseudo_by b m u at l in
      let here : m.to ≡ place_in (cell_of m.to) = sym (place_in-cell_of b.game m.to (to_on_board b m u p)) in
      let man : u ≡ record { side = u.side; kind = King } = λ k. record { side = u.side; kind = king k } in
      (are (cell_of m.to)).1 (subst (λ x. IsTarget b x s (cell_of m.to)) man (subst (λ x. IsTarget b u x (cell_of m.to)) from (IsTarget-move b m u p)), lawful_calm b u s (cell_of m.to) is king owner stands m from here l)

  -- and out of check to all of them
  pub calm_safe : IsOnBoard b.game s → (IsInCheck b b.mover → ⊥) → HasSafe b u s set
  calm_safe on out =
      let mine : unit_at b s ≡ king_of b.mover = stands ∙ λ k. Some (record { side = owner k; kind = king k }) in
      let free : (t : Place) → IsPinned b b.mover t s → ⊥ = λ t w. out (check_from b b.mover s on mine (w.from, pinned_attacks b is b.mover t s w)) in
      record {
        cells = calm_target;
        lawful = λ i m h. calm_lawful b u s i is king owner stands (free (place_in i)) on (calm_target i h) ((are i).0 h).1 m;
        all = calm_all;
      }
