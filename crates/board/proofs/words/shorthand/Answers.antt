use Rattle.board.specs.Notation.IsShorthand.{rook, bishop, queen, king}
use Rattle.board.proofs.words.shorthand.Goals as goal

pub returns-in-82 : goal.returns-in-82
returns-in-82 c = rw (c.in-82.is, c.one.ensures, c.bare.ensures) rook

pub returns-in-66 : goal.returns-in-66
returns-in-66 c = rw (c.in-66.is, c.one-in-66.ensures, c.bare-in-66.ensures) bishop

pub returns-in-81 : goal.returns-in-81
returns-in-81 c = rw (c.in-81.is, c.two.ensures, c.bare-in-81.ensures, c.bare-in-81-2.ensures) queen

pub returns-in-75 : goal.returns-in-75
returns-in-75 c = rw (c.in-75.is, c.two-in-75.ensures, c.bare-in-75.ensures, c.bare-in-75-2.ensures) king
