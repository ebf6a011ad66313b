use Rattle.text_tests.proofs.names.name_of.Goals as goal

pub name-name-requires : goal.name-name-requires
name-name-requires g c = c.is_lawful_on.ensures.0 c.if-not-is_lawful_on.false
