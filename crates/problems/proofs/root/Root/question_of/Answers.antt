use Rattle.problems.proofs.Jobs.{move_at, got_at, lawful_job, asked_after}
use Rattle.problems.proofs.root.Root.question_of.Goals as goal

pub after-requires : goal.after-requires
after-requires c =
    lawful_job c.args.self.now.board c.args.self.now.moves.items c.requires.0 c.args.job c.index-deref-from.result c.requires.1
    (move_at c.args.self.now.moves.items c.deref.result.now c.from.result c.args.job c.index-deref-from.result c.deref.ensures.0 c.from.ensures c.index-deref-from.is)

pub returns : goal.returns
returns c =
    asked_after c.args.self.now c.args.job c.index-deref-from.result c.after.result c.question_at.result
    (got_at c.args.self.now.moves.items c.args.job c.index-deref-from.result c.requires.1
    (move_at c.args.self.now.moves.items c.deref.result.now c.from.result c.args.job c.index-deref-from.result c.deref.ensures.0 c.from.ensures c.index-deref-from.is))
    c.after.ensures c.question_at.ensures
