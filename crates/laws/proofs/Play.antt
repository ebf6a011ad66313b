-- Play on a turned board is the play on the board, turned.
use Rattle.std.proofs.Common.{◌≡◌, ℕ, ◌<◌, ◌≤◌, ◌↔◌, inl, inr, refl, sym, ap, subst, ◌∙◌, arith, Bool, true, false, Option, Some, None, length}
use Rattle.laws.proofs.Common.{IfSome, IsSome, unwrap_or, length-set, Game, Side, White, Black, Kind, King, Pawn, Man, Step, width_of, squares_of, other_side, IsPlayed, PlainBoard, Place, Ply, IsOnBoard, unit_at, Allows, Leads, Reaches, AttacksFrom, IsInCheck, IsLastRank, Promotes, IsPromotion, IsSomeKing, after, IsPseudoLegal, IsMove, to_on_board, Turning, mirrored, place_over, turned_place, exchanged, turned_side, turned_unit, turned_units, turned_move, IsTurned, KeepsAhead, HasNoPawn, MayTurn}
use Rattle.std.proofs.lemmas.Option.{same_Some}
use Rattle.board.specs.declared.step.Mode.{Mode}
use Rattle.board.specs.declared.step.Mode.TheVariants.{Move, Capture, Both}
use Rattle.rules.specs.Reach.Leads.{once, again}
use Rattle.laws.proofs.Squares.{back_of, exchanged-other, back_side}
use Rattle.laws.proofs.Steps.{turned_step, turned-step, turned-denoted}
use Rattle.laws.proofs.Turned.{image_on_board, image_apart, IsTurned-back, MayTurn-back, pawn_keeps, stands_to, stands_from, stands_else, stands_past, stands_after}

-- ---- what a unit reaches

Allows-turned : (t : Turning) (mode : Mode) (side : Side) (o : Option Man) → Allows mode side o → Allows mode (turned_side t side) (turned_units t o)
Allows-turned t Move side None h = tt
Allows-turned t Move side (Some u) h = h
Allows-turned t Capture side None h = h
Allows-turned t Capture side (Some u) h = ap (turned_side t) h ∙ sym (exchanged-other t.sides side)
Allows-turned t Both side None h = tt
Allows-turned t Both side (Some u) h = ap (turned_side t) h ∙ sym (exchanged-other t.sides side)

module _ (t : Turning) (b c : PlainBoard) (turned : IsTurned t b c) where
  Leads-turned : (side : Side) (step : Step) (s v : Place) → IsOnBoard b.game s → Leads b side step s v → Leads c (turned_side t side) (turned_step t side step) (turned_place b.game t s) (turned_place b.game t v)
  Leads-turned side step s v on_s (once on a) = once (image_on_board t b c turned v on) (turned-step b.game t side step s v on_s on a)
  Leads-turned side step s v on_s (again {u = u} r on a e l) = again r (image_on_board t b c turned u on) (turned-step b.game t side step s u on_s on a) (turned.units u on ∙ ap (turned_units t) e) (Leads-turned side step u v on l)

  Reaches-turned : (u : Man) (s v : Place) (target : Option Man) → (u.kind ≡ Pawn → KeepsAhead t) → IsOnBoard b.game s → Reaches b u s v target → Reaches c (turned_unit t u) (turned_place b.game t s) (turned_place b.game t v) (turned_units t target)
  Reaches-turned u s v target keeps on r = record {
    step = turned_step t u.side r.step;
    played = subst (λ g. IsPlayed g u.kind) (sym turned.game) r.played;
    denoted = turned-denoted t u.side r.step u.kind keeps r.denoted;
    reaches = record {
      allows = Allows-turned t r.step.mode u.side target r.reaches.allows;
      leads = Leads-turned u.side r.step s v on r.reaches.leads;
    };
  }

  -- ---- check

  module _ (may : MayTurn t b) where
    AttacksFrom-turned : (side : Side) (s v : Place) → AttacksFrom b side s v → AttacksFrom c (turned_side t side) (turned_place b.game t s) (turned_place b.game t v)
    AttacksFrom-turned side s v a = record {
      unit = turned_unit t a.unit;
      on_board = image_on_board t b c turned s a.on_board;
      stands = turned.units s a.on_board ∙ ap (turned_units t) a.stands;
      owner = ap (turned_side t) a.owner;
      reaches = subst (λ x. Reaches c (turned_unit t a.unit) (turned_place b.game t s) (turned_place b.game t v) (Some (record { side = x; kind = King }))) (sym (exchanged-other t.sides side))
          (Reaches-turned a.unit s v _ (pawn_keeps t b may s a.unit a.on_board a.stands) a.on_board a.reaches);
    }

    pub IsInCheck-turned : (side : Side) → IsInCheck b side → IsInCheck c (turned_side t side)
    IsInCheck-turned side (s, at) = (
      turned_place b.game t s,
      record {
        on_board = image_on_board t b c turned s at.on_board;
        king = turned.units s at.on_board ∙ ap (turned_units t) at.king;
        attacked = (
          turned_place b.game t at.attacked.0,
          subst (λ x. AttacksFrom c x (turned_place b.game t at.attacked.0) (turned_place b.game t s)) (sym (exchanged-other t.sides side))
              (AttacksFrom-turned (other_side side) at.attacked.0 s at.attacked.1),
        );
      },
    )

-- what is in check on the turned board was so on the board
pub IsInCheck-back : (t : Turning) (b c : PlainBoard) → IsTurned t b c → MayTurn t b → (side : Side) → IsInCheck c (turned_side t side) → IsInCheck b side
IsInCheck-back t b c turned may side check = subst (IsInCheck b) (back_side t side)
    (IsInCheck-turned (back_of t) c b (IsTurned-back t b c turned) (MayTurn-back t b c turned may) (turned_side t side) check)

-- ---- moves

last_rank : (g : Game) (x : Bool) (side : Side) (rank : ℕ) → rank < width_of g → IsLastRank g side rank ↔ IsLastRank g (exchanged x side) (mirrored x (width_of g) rank)
last_rank g false side rank h = (λ e. e, λ e. e)
last_rank g true White rank h = (λ e. omega arith, λ e. omega arith)
last_rank g true Black rank h = (λ e. omega arith, λ e. omega arith)

rank_kept : (g : Game) (l r d x : Bool) (side : Side) (file rank : ℕ) → d ≡ false → r ≡ x → rank < width_of g → IsLastRank g side rank ↔ IsLastRank g (exchanged x side) (place_over d (mirrored l (width_of g) file) (mirrored r (width_of g) rank)).rank
rank_kept g l r false x side file rank e f h = subst (λ y. IsLastRank g side rank ↔ IsLastRank g (exchanged x side) (mirrored y (width_of g) rank)) (sym f) (last_rank g x side rank h)
rank_kept g l r true x side file rank e f h = cc

Promotes-turned : (g : Game) (t : Turning) (u : Man) (s : Place) → (u.kind ≡ Pawn → KeepsAhead t) → IsOnBoard g s → Promotes g u s ↔ Promotes g (turned_unit t u) (turned_place g t s)
Promotes-turned g t u s keeps on =
    let kept = λ (pawn : u.kind ≡ Pawn). rank_kept g t.left_right t.top_bottom t.diagonal t.sides u.side s.file s.rank (keeps pawn).straight (keeps pawn).ahead on.rank in
    (λ (pawn, last). (pawn, (kept pawn).0 last), λ (pawn, last). (pawn, (kept pawn).1 last))

IsSomeKing-turned : (t : Turning) (o : Option Man) → IsSomeKing (turned_units t o) → IsSomeKing o
IsSomeKing-turned t None h = h
IsSomeKing-turned t (Some u) h = h

pawn_stays : (g : Game) (o : Option Kind) (k : Kind) → IfSome o (IsPromotion g) → unwrap_or o k ≡ Pawn → k ≡ Pawn
pawn_stays g None k h e = e
pawn_stays g (Some p) k h e = absurd (subst (IsPromotion g) e h)

-- a move brings no pawn
HasNoPawn-after : (b : PlainBoard) (m : Ply) (u : Man) → length b.units ≡ 36 → IsPseudoLegal b m u → HasNoPawn b → HasNoPawn (after b m u)
HasNoPawn-after b m u places p none s v on stands pawn = elim (stands_after b m u places p.on_board (to_on_board b m u p) s on) [
  | inl (same, there) ↦
      let kind : unwrap_or m.promotion u.kind ≡ v.kind = ap (λ (w : Man). w.kind) (same_Some _ _ (sym there ∙ stands)) in
      none m.from u p.on_board p.stands (pawn_stays b.game m.promotion u.kind p.allowed (kind ∙ pawn))
  | inr (inl (not_to, same, there)) ↦ let never : None ≡ Some v = sym there ∙ stands in cc
  | inr (inr (not_to, not_from, there)) ↦ none s v on (sym there ∙ stands) pawn
]

MayTurn-after : (t : Turning) (b : PlainBoard) (m : Ply) (u : Man) → length b.units ≡ 36 → IsPseudoLegal b m u → MayTurn t b → MayTurn t (after b m u)
MayTurn-after t b m u places p (inl keeps) = inl keeps
MayTurn-after t b m u places p (inr none) = inr (HasNoPawn-after b m u places p none)

module _ (t : Turning) (b c : PlainBoard) (turned : IsTurned t b c) (may : MayTurn t b) (m : Ply) (u : Man) (p : IsPseudoLegal b m u) where
  to_on : IsOnBoard b.game m.to
  to_on = to_on_board b m u p

  keeps : u.kind ≡ Pawn → KeepsAhead t
  keeps = pawn_keeps t b may m.from u p.on_board p.stands

  pub IsPseudoLegal-turned : IsPseudoLegal c (turned_move b.game t m) (turned_unit t u)
  IsPseudoLegal-turned = record {
    on_board = image_on_board t b c turned m.from p.on_board;
    stands = turned.units m.from p.on_board ∙ ap (turned_units t) p.stands;
    owner = ap (turned_side t) p.owner ∙ sym turned.mover;
    reaches = subst (Reaches c (turned_unit t u) (turned_place b.game t m.from) (turned_place b.game t m.to)) (sym (turned.units m.to to_on))
        (Reaches-turned t b c turned u m.from m.to (unit_at b m.to) keeps p.on_board p.reaches);
    no_king = λ king. p.no_king (IsSomeKing-turned t (unit_at b m.to) (subst IsSomeKing (turned.units m.to to_on) king));
    named = subst (λ g. IsSome m.promotion ↔ Promotes g (turned_unit t u) (turned_place b.game t m.to)) (sym turned.game)
        (let same = Promotes-turned b.game t u m.to keeps to_on in
        (λ some. same.0 (p.named.0 some), λ last. p.named.1 (same.1 last)));
    allowed = subst (λ g. IfSome m.promotion (IsPromotion g)) (sym turned.game) p.allowed;
  }

  abbrev turned_m : Ply
  turned_m = turned_move b.game t m

  abbrev turned_u : Man
  turned_u = turned_unit t u

  turned_from_on : IsOnBoard c.game turned_m.from
  turned_from_on = image_on_board t b c turned m.from p.on_board

  turned_to_on : IsOnBoard c.game turned_m.to
  turned_to_on = image_on_board t b c turned m.to to_on

  -- the turned move leads to this
  abbrev turned_after : PlainBoard
  turned_after = after c turned_m turned_u

  stands_turned : (s : Place) → IsOnBoard b.game s → unit_at turned_after (turned_place b.game t s) ≡ turned_units t (unit_at (after b m u) s)
  stands_turned s on = elim (stands_after b m u turned.places p.on_board to_on s on) [
    | inl (same, stands) ↦ ap (λ x. unit_at turned_after (turned_place b.game t x)) same
        ∙ stands_to c turned_m turned_u turned.turned_places turned_from_on turned_to_on ∙ sym (ap (turned_units t) stands)
    | inr (inl (not_to, same, stands)) ↦ ap (λ x. unit_at turned_after (turned_place b.game t x)) same
        ∙ stands_from c turned_m turned_u turned.turned_places turned_from_on turned_to_on (image_apart t b c turned m.from m.to p.on_board to_on (λ e. not_to (same ∙ e)))
        ∙ sym (ap (turned_units t) stands)
    | inr (inr (not_to, not_from, stands)) ↦ stands_else c turned_m turned_u turned.turned_places turned_from_on turned_to_on
        (turned_place b.game t s) (image_on_board t b c turned s on)
        (image_apart t b c turned s m.to on to_on not_to) (image_apart t b c turned s m.from on p.on_board not_from)
        ∙ turned.units s on ∙ sym (ap (turned_units t) stands)
  ]

  pub IsTurned-after : IsTurned t (after b m u) turned_after
  IsTurned-after = record {
    game = turned.game;
    mover = ap other_side turned.mover ∙ exchanged-other t.sides b.mover;
    places = simp length-set turned.places;
    turned_places = simp length-set turned.turned_places;
    units = stands_turned;
    past = λ n far.
        let before = stands_past b m u turned.places p.on_board to_on n far in
        let there = turned.past n far in
        let after_it = stands_past c turned_m turned_u turned.turned_places turned_from_on turned_to_on n (subst (λ g. squares_of g ≤ n) (sym turned.game) far) in
        cc;
  }

module _ (t : Turning) (b c : PlainBoard) (turned : IsTurned t b c) (may : MayTurn t b) where
  -- a move leads to a board that may be turned so again
  pub MayTurn-move : (m : Ply) (q : PlainBoard) → IsMove b m q → MayTurn t q
  MayTurn-move m q move = subst (MayTurn t) (sym move.leads) (MayTurn-after t b m move.unit turned.places move.pseudo may)

  -- the turned move leads to the turned board
  pub IsMove-turned : (m : Ply) (q : PlainBoard) → IsMove b m q → (r : PlainBoard) × IsMove c (turned_move b.game t m) r × IsTurned t q r
  IsMove-turned m q move =
      let r = after c (turned_move b.game t m) (turned_unit t move.unit) in
      let turned_q : IsTurned t q r = subst (λ x. IsTurned t x r) (sym move.leads) (IsTurned-after t b c turned may m move.unit move.pseudo) in (
        r,
        record {
          unit = turned_unit t move.unit;
          pseudo = IsPseudoLegal-turned t b c turned may m move.unit move.pseudo;
          leads = refl;
          safe = λ check. move.safe (IsInCheck-back t q r turned_q (MayTurn-move m q move) b.mover (subst (IsInCheck r) turned.mover check));
        },
        turned_q,
      )
