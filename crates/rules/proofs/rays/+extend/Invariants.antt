use Rattle.rules.specs.Rays.{squares_left}
use Rattle.rules.proofs.rays.+extend.Given as given

abbrev pub decreases-extend : given.decreases-extend
decreases-extend l = squares_left l.step.now.dx l.step.now.dy l.from
