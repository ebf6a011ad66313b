use Rattle.acceptance.proofs.perft.+leaves_on.Given as given

-- each ply leaves one fewer
abbrev pub decreases-leaves_on : given.decreases-leaves_on
decreases-leaves_on l = l.depth
