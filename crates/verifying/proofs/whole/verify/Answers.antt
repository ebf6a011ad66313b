use Rattle.std.proofs.Common.{◌≡◌, Some, ap}
use Rattle.verifying.proofs.Common.{NoMemory, ReadFailed, IsRefusedWith}
use Rattle.verifying.proofs.Inputs.{err_of_known}
use Rattle.verifying.proofs.whole.verify.Goals as goal

pub returns-clause-refused : goal.returns-clause-refused
returns-clause-refused g c =
    err_of_known c.args.text.now (λ fault. fault ≡ NoMemory → ⊥) (λ fault. fault ≡ ReadFailed → ⊥) (IsRefusedWith c.args.goal c.args.board.now) (Some c.new-reader.result.device.now) c.verify_input.result (ap (λ x. Some x.now) c.new-reader.ensures.device) c.verify_input.ensures.refused
