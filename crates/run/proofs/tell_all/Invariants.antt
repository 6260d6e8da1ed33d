-- `run::tell_all` sends what each station sends, in order: after i turns what the first i sent follows the messages that stood.
-- Assumes nothing.
use Rattle.std.proofs.Common.{◌≡◌, ◌+◌, [], ◌++◌}
use Rattle.flight.specs.Message.{decode}
use Rattle.flight.proofs.Coding.{Laid}
use Rattle.line.specs.Held.{run_of}
use Rattle.line.specs.Moves.{advance_sends}
use Rattle.run.specs.Advance.{sent_to}
use Rattle.run.proofs.tell_all.Given as goal

abbrev pub invariant-loop-i : goal.invariant-loop-i
invariant-loop-i l = record {
  number : l.count ≡ l.l.count + sent_to l.l l.increments l.i;
  laid : Laid l.initial.words l.words (decode l.l.count l.initial.words ++ advance_sends (run_of l.l []) l.d l.increments l.i);
}
