use Rattle.std.proofs.Common.{◌≡◌, true, codes, refl, subst}
use Rattle.json.specs.Print.{escape_byte, print_from}
use Rattle.endings.specs.Run.{Finishes, ending_of}
use Rattle.batches.specs.Batch.{wanting_text}
use Rattle.batches.proofs.running.give_up.Goals as goal

-- the object that is written is the kit's text of its tokens
wanting : codes "{\"position\":null,\"refused\":\"NoMemory\",\"sentence\":\"out of memory\"}\n" ≡ wanting_text true
unfolding print_from escape_byte
wanting = refl

pub returns-then-json : goal.returns-then-json
returns-then-json g c =
    let ending = ending_of g.K.Sink.contents g.K.Sink.failures c.args.writer.now c.finish.new.writer c.finish.result in
    rw c.if-json.true (subst (λ status. Finishes ending (wanting_text true) status) c.status.ensures (subst (λ text. Finishes ending text c.status.result) wanting c.finish.ensures.written))
