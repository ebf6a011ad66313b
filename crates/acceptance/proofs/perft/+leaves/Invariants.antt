use Rattle.acceptance.proofs.perft.+leaves.Given as given

-- each ply leaves one fewer
abbrev pub decreases-leaves : given.decreases-leaves
decreases-leaves l = l.depth
