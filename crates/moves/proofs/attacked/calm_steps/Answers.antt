use Rattle.moves.proofs.Common.{inl, inr, Has-or}
use Rattle.moves.proofs.attacked.calm_steps.Goals as goal

pub returns : goal.returns
returns c = λ i.
    let b = c.args.board.now in
    let or = Has-or c.args.attacked c.kings.result i in (
      λ h.
          let w = (c.except.ensures i).0 h in
          let target = (c.targets.ensures i).0 w.0 in (
            target,
            record {
              no_king = λ there. w.1 (or.1 (inr ((c.kings.ensures i).1 (target.0, there))));
              safe = λ a. w.1 (or.1 (inl ((c.requires.attacked i).1 (target.0, a))));
            },
          ),
      λ (target, calm). (c.except.ensures i).1 (
        (c.targets.ensures i).1 target,
        λ h. elim (or.0 h) [
          | inl a ↦ calm.safe ((c.requires.attacked i).0 a).1
          | inr k ↦ calm.no_king ((c.kings.ensures i).0 k).1
        ],
      ),
    )
