use Rattle.moves.proofs.Common.{◌↔◌, ℕ, refl, sym, subst, false≢true, Side, other_side, AttacksFrom, place_in, IsCell, Has, Checkers, so}
use Rattle.moves.proofs.Blocking.{HasBlocks-all}
use Rattle.moves.proofs.Kings.{check_from}
use Rattle.moves.proofs.Attacking.{some_checkers}
use Rattle.moves.proofs.board_list.guard_in_check.Goals as goal

checkers : (c : goal.After-attackers-checkers) → Checkers c.args.board.now c.args.king c.attackers-checkers.result
checkers c = subst (λ (s : Side). (i : ℕ) → Has c.attackers-checkers.result i ↔ (IsCell c.args.board.now.game i × AttacksFrom c.args.board.now (other_side s) (place_in i) (place_in c.args.king))) c.mover.ensures.value c.attackers-checkers.ensures

pub shadow-requires-clause-checkers : goal.shadow-requires-clause-checkers
shadow-requires-clause-checkers c = checkers c

pub returns : goal.returns
returns c =
    let b = c.args.board.now in
    let attacked = ((c.requires.attacked c.args.king).0 c.requires.there).1 in
    record {
      guards = record {
        cell = c.requires.cell;
        king = c.requires.king;
        attacked = c.requires.attacked;
        checked = so (check_from b b.mover (place_in c.args.king) c.requires.cell.on_board c.requires.king attacked);
        pins = λ out. absurd (false≢true (sym out));
        blocks = HasBlocks-all b;
        shadow = c.shadow.ensures;
      };
      checked = refl;
      some = some_checkers b c.requires.position (other_side b.mover) (place_in c.args.king) _ (checkers c.before) attacked;
      checkers = checkers c.before;
    }
