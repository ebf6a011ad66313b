use Rattle.std.proofs.Common.{◌≡◌, ◌∙◌, sym, ap, Option, Some, None, ℕ}
use Rattle.entry.proofs.Common.{MatchOption, Bounds, IsBounds, upto_byte}
use Rattle.entry.proofs.Words.{fields_of, one_interval}
use Rattle.entry.proofs.packing.interval_of.Goals as goal

found : (below byte : ℕ) (o : Option Bounds)
    → MatchOption o ((i : Bounds) → IsBounds i → i.below ≡ below → byte ≡ upto_byte i.upto → ⊥) (λ i. IsBounds i × (i.below ≡ below) × (byte ≡ upto_byte i.upto))
    → (j : Bounds) → IsBounds j → below ≡ j.below → byte ≡ upto_byte j.upto → o ≡ Some j
found below byte None h j is b u = absurd (h j is (sym b) u)
found below byte (Some i) h j is b u = ap Some (one_interval i j h.0 is (h.1 ∙ b) (sym h.2 ∙ u))

pub returns-clause-entry : goal.returns-clause-entry
returns-clause-entry c = λ e p.
    let f = fields_of e c.args.words p in
    found _ _ c.read_interval.result c.read_interval.ensures e.interval p.interval f.below f.upto
