use Rattle.moves.proofs.board_list.blocked.Goals as goal

pub blocks-requires : goal.blocks-requires
blocks-requires c =
    let (from, check) = (c.requires.checkers c.lowest.result).0 c.lowest.ensures.there in
    record { position = c.requires.position; cell = c.requires.guards.cell; king = c.requires.guards.king; from = from; check = check }

pub returns : goal.returns
returns c = record {
  cell = c.requires.guards.cell;
  king = c.requires.guards.king;
  attacked = c.requires.guards.attacked;
  checked = c.requires.guards.checked;
  pins = c.requires.guards.pins;
  blocks = c.blocks-2.ensures;
  shadow = c.requires.guards.shadow;
}
