-- `line::in_flight` answers `in_flight`: 10, else how many messages the words hold. Assumes nothing.
use mathlib.Core.Path.{sym, ◌∙◌}
use Rattle.flight.proofs.Coding.{length-decode}
use Rattle.line.specs.Held.{run_of}
use Rattle.line.specs.Question.{in_flight}
use Rattle.line.proofs.in_flight.Goals as goal

pub returns : goal.returns
unfolding in_flight run_of
returns c = rw (sym c.bad_line.ensures ∙ c.if-bad_line.false) (λ i. record {
  answer = 0;
  count = sym
      (length-decode c.args.l.count c.args.words.now) i;
})
