-- The readings of the kinds' strings.
use Rattle.std.proofs.Common.{◌≢◌, refl, arith, true, false, [], ◌∷◌}
use Rattle.board.proofs.Common.{All-cons, All-get_or, All-nil, all_pairs_push, Kind, King, Queen, Rook, Bishop, Knight, Pawn, Move, Capture, Wazir, Ferz, Term, single, AreDistinct, terms_of, IsReading, piece_text, term, short, rook, bishop, queen, king, last, more}
use Rattle.board.specs.declared.terms.Atom.TheVariants as atom

one_distinct : (t : Term) → AreDistinct (t ∷ [])
one_distinct t = all_pairs_push (λ x y. x.atom ≢ y.atom) [] t (λ i j d p q. absurd (omega arith)) (λ k d lt. absurd (omega arith))

two_distinct : (t u : Term) → t.atom ≢ u.atom → AreDistinct (t ∷ u ∷ [])
two_distinct t u h = all_pairs_push (λ x y. x.atom ≢ y.atom) (t ∷ []) u (one_distinct t) (λ k d lt. All-get_or (λ x. x.atom ≢ u.atom) (t ∷ []) k d lt (All-cons (λ x. x.atom ≢ u.atom) t [] h (All-nil _)))

-- each kind's terms are the accepted reading of its string
pub kind_reading : (k : Kind) → IsReading (piece_text k) (terms_of k)
kind_reading King = record { read = last (short king); distinct = two_distinct _ _ (λ e. cc) }
kind_reading Queen = record { read = last (short queen); distinct = two_distinct _ _ (λ e. cc) }
kind_reading Rook = record { read = last (short rook); distinct = one_distinct _ }
kind_reading Bishop = record { read = last (short bishop); distinct = one_distinct _ }
kind_reading Knight = record { read = last (term (single atom.Knight) (λ e. cc) refl); distinct = one_distinct _ }
kind_reading Pawn = record {
  read = more (term (record { mode = Move; forward = true; atom = Wazir; rider = false }) (λ e f. cc) refl)
      (last (term (record { mode = Capture; forward = true; atom = Ferz; rider = false }) (λ e f. cc) refl));
  distinct = two_distinct _ _ (λ e. cc);
}
