use Rattle.batches.proofs.batch.made_text.Goals as goal

pub returns-in-Some-clause-text : goal.returns-in-Some-clause-text
returns-in-Some-clause-text g c = c.in-Some.ensures.text c.args.batch.now c.requires.ahead
