use Rattle.cells.specs.declared.tables.Way.TheVariants.{North, South, East, West, NorthEast, SouthWest, NorthWest, SouthEast}
use Rattle.cells.proofs.OnRays.{IsOnRay-entry}
use Rattle.cells.proofs.tables.ray.Goals as goal

pub returns-in-North : goal.returns-in-North
returns-in-North c = λ j. IsOnRay-entry c.args.way North c.in-North.is c.args.game _ c.args.cell j c.board_number-number.ensures c.requires

pub returns-in-South : goal.returns-in-South
returns-in-South c = λ j. IsOnRay-entry c.args.way South c.in-South.is c.args.game _ c.args.cell j c.board_number-number.ensures c.requires

pub returns-in-East : goal.returns-in-East
returns-in-East c = λ j. IsOnRay-entry c.args.way East c.in-East.is c.args.game _ c.args.cell j c.board_number-number.ensures c.requires

pub returns-in-West : goal.returns-in-West
returns-in-West c = λ j. IsOnRay-entry c.args.way West c.in-West.is c.args.game _ c.args.cell j c.board_number-number.ensures c.requires

pub returns-in-NorthEast : goal.returns-in-NorthEast
returns-in-NorthEast c = λ j. IsOnRay-entry c.args.way NorthEast c.in-NorthEast.is c.args.game _ c.args.cell j c.board_number-number.ensures c.requires

pub returns-in-SouthWest : goal.returns-in-SouthWest
returns-in-SouthWest c = λ j. IsOnRay-entry c.args.way SouthWest c.in-SouthWest.is c.args.game _ c.args.cell j c.board_number-number.ensures c.requires

pub returns-in-NorthWest : goal.returns-in-NorthWest
returns-in-NorthWest c = λ j. IsOnRay-entry c.args.way NorthWest c.in-NorthWest.is c.args.game _ c.args.cell j c.board_number-number.ensures c.requires

pub returns-in-SouthEast : goal.returns-in-SouthEast
returns-in-SouthEast c = λ j. IsOnRay-entry c.args.way SouthEast c.in-SouthEast.is c.args.game _ c.args.cell j c.board_number-number.ensures c.requires
