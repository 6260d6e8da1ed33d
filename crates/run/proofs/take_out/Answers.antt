-- `run::take_out` takes the message out of the flight; what it notes is no part of the run. Assumes nothing.
use Rattle.std.proofs.Common.{ap, sym, ◌∙◌}
use Rattle.flight.specs.Message.{Answer}
use Rattle.flight.proofs.Sending.{count-answer_of}
use Rattle.run.proofs.take_out.Goals as goal

pub returns : goal.returns
returns c =
    record {
      value = c.unwrap_or-left.ensures ∙ sym (count-answer_of c.args.count c.take_out.result) ∙ ap (λ (x : Answer). x.count) c.take_out.ensures.value;
      words_after = c.take_out.ensures.words_after;
    }
