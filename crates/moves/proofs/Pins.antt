-- Units that aren't pinned leave their king safe.
use Rattle.moves.proofs.Common.{◌≡◌, refl, sym, ap, subst, ◌∙◌, ◌⊎◌, inl, inr, true, not, Option, Some, None, unwrap_or, IfSome, cases_eq, same_Some, Game, Side, Kind, King, Queen, Rook, Bishop, Knight, Pawn, Man, Step, other_side, PlainBoard, IsPosition, Place, Ply, IsOnBoard, square_number, unit_at, Leads, AttacksFrom, IsAttacked, IsInCheck, once, again, IsPromotion, IsPseudoLegal, placed, after, IsPinned, same_number, to_on_board, own_or_other}
use Rattle.moves.proofs.Laying.{unit_at-to, unit_at-from, unit_at-other}
use Rattle.moves.proofs.Kings.{king_of, check_from, one_king}
use Rattle.moves.proofs.Looking.{captures_from, carried}

-- ---- a move of a unit that isn't pinned

pub place_cases : (g : Game) (s t : Place) → IsOnBoard g s → IsOnBoard g t → (s ≡ t) ⊎ (s ≡ t → ⊥)
place_cases g s t a b = elim (cases_eq (square_number g s) (square_number g t)) [
  | inl same ↦ inl (same_number g s t a b same)
  | inr other ↦ inr (λ e. other (ap (square_number g) e))
]

pub promotes_no_king : (g : Game) (o : Option Kind) (k : Kind) → IfSome o (IsPromotion g) → (k ≡ King → ⊥) → unwrap_or o k ≡ King → ⊥
promotes_no_king g None k a not e = not e
promotes_no_king g (Some King) k a not e = a
promotes_no_king g (Some Queen) k a not e = cc
promotes_no_king g (Some Rook) k a not e = cc
promotes_no_king g (Some Bishop) k a not e = cc
promotes_no_king g (Some Knight) k a not e = cc
promotes_no_king g (Some Pawn) k a not e = cc

pub no_unit : {x : Man} → None ≡ Some x → ⊥
no_unit h = cc

module _ (b : PlainBoard) (m : Ply) (u : Man) (is : IsPosition b) (p : IsPseudoLegal b m u) where
  to : IsOnBoard b.game m.to
  to = to_on_board b m u p

  -- what stands after the move and isn't the unit that moved stood there before
  pub stood : (s : Place) (v : Man) → IsOnBoard b.game s → unit_at (after b m u) s ≡ Some v → (v ≡ placed u m → ⊥) → unit_at b s ≡ Some v
  stood s v o e other = elim (place_cases b.game s m.to o to) [
    | inl same ↦ absurd (other (same_Some v (placed u m) (sym e ∙ ap (unit_at (after b m u)) same ∙ unit_at-to b m u is p)))
    | inr far ↦ elim (place_cases b.game s m.from o p.on_board) [
      | inl same ↦ absurd (no_unit (sym (unit_at-from b m u is p) ∙ ap (unit_at (after b m u)) (sym same) ∙ e))
      | inr apart ↦ sym (unit_at-other b m u is p s o apart far) ∙ e
    ]
  ]

  -- a walk after the move was one before it, or comes by the from-square
  pub walked : (side : Side) (step : Step) (s t : Place) → Leads (after b m u) side step s t → Leads b side step s t ⊎ ((step.rider ≡ true) × Leads b side step s m.from × Leads b side step m.from t)
  walked side step s t (once o a) = inl (once o a)
  walked side step s t (again {u = v} r o a empty l) =
      let rest = walked side step v t l in
      elim (place_cases b.game v m.to o to) [
        | inl same ↦ absurd (no_unit (sym empty ∙ ap (unit_at (after b m u)) same ∙ unit_at-to b m u is p))
        | inr far ↦ elim (place_cases b.game v m.from o p.on_board) [
          | inl same ↦ inr (r, subst (Leads b side step s) same (once o a), elim rest [ inl w ↦ subst (λ x. Leads b side step x t) same w | inr w ↦ w.2 ])
          | inr apart ↦
              let bare : unit_at b v ≡ None = sym (unit_at-other b m u is p v o apart far) ∙ empty in
              elim rest [ inl w ↦ inl (again r o a bare w) | inr w ↦ inr (w.0, again r o a bare w.1, w.2) ]
        ]
      ]

  -- what attacks a square after the move is the unit that moved, or did so before, or comes there by the from-square
  pub attacked_after : (side : Side) (s t : Place) → AttacksFrom (after b m u) (other_side side) s t
      → ((s ≡ m.to) × ((v : Man) → unit_at (after b m u) s ≡ Some v → v ≡ placed u m)) ⊎ (AttacksFrom b (other_side side) s t ⊎ ((pin : IsPinned b side t m.from) × (pin.from ≡ s)))
  attacked_after side s t a = elim (place_cases b.game s m.to a.on_board to) [
    | inl same ↦ inl (same, λ v e. same_Some v (placed u m) (sym e ∙ ap (unit_at (after b m u)) same ∙ unit_at-to b m u is p))
    | inr far ↦ elim (place_cases b.game s m.from a.on_board p.on_board) [
      | inl same ↦ absurd (no_unit (sym (unit_at-from b m u is p) ∙ ap (unit_at (after b m u)) (sym same) ∙ a.stands))
      | inr apart ↦
          let r = a.reaches in
          let stands : unit_at b s ≡ Some a.unit = sym (unit_at-other b m u is p s a.on_board apart far) ∙ a.stands in
          inr (elim (walked a.unit.side r.step s t r.reaches.leads) [
            | inl w ↦ inl (carried (after b m u) b (other_side side) s t s t a a.on_board r.played stands w)
            | inr w ↦ inr (
              record {
                rider = a.unit;
                from = s;
                step = r.step;
                on_board = a.on_board;
                stands = stands;
                owner = a.owner;
                denoted = r.denoted;
                rides = w.0;
                captures = captures_from r.step.mode a.unit.side _ r.reaches.allows;
                taken = λ none. no_unit (sym none ∙ p.stands);
                to_unit = w.1;
                to_king = w.2;
              },
              refl,
            )
          ])
    ]
  ]

  -- the mover's foe attacks a square after the move as before it, or comes there by the from-square
  pub foe_attacks : (t : Place) → IsAttacked (after b m u) t (other_side b.mover) → IsAttacked b t (other_side b.mover) ⊎ IsPinned b b.mover t m.from
  foe_attacks t (s, a) = elim (attacked_after b.mover s t a) [
    | inl (at, moved) ↦ absurd (own_or_other b.mover (sym p.owner ∙ sym (ap (λ (x : Man). x.side) (moved a.unit a.stands)) ∙ a.owner))
    | inr (inl w) ↦ inl (s, w)
    | inr (inr pin) ↦ inr pin.0
  ]

  module _ (piece : u.kind ≡ King → ⊥) (k : Place) (on : IsOnBoard b.game k) (king : unit_at b k ≡ king_of b.mover) where
    -- so a check after it was one before it
    pub stays_safe : (IsPinned b b.mover k m.from → ⊥) → IsInCheck (after b m u) b.mover → IsInCheck b b.mover
    stays_safe free (t, check) =
        let before : unit_at b t ≡ king_of b.mover = stood t _ check.on_board check.king (λ e. promotes_no_king b.game m.promotion u.kind p.allowed piece (sym (ap (λ (x : Man). x.kind) e))) in
        let at : t ≡ k = one_king b is b.mover t k check.on_board on before king in
        elim (foe_attacks t check.attacked) [
          | inl w ↦ check_from b b.mover t check.on_board before w
          | inr pin ↦ absurd (free (subst (λ x. IsPinned b b.mover x m.from) at pin))
        ]
