use Rattle.solution_text.proofs.tries.tries_text.Goals as goal

pub texts-requires : goal.texts-requires
texts-requires g c = λ i d less. (c.requires.0, c.requires.1 i d less)
