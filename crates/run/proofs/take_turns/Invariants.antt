-- `run::take_turns` lets each station take its turn: after i turns the first i stand in their places and so many messages are
-- sent. Assumes nothing.
use Rattle.std.proofs.Common.{◌≡◌}
use Rattle.run.specs.Advance.{stations_to, sent_to}
use Rattle.run.proofs.take_turns.Given as goal

abbrev pub invariant-loop-i : goal.invariant-loop-i
invariant-loop-i l = record {
  stations : l.stations ≡ stations_to l.l l.increments l.i;
  sent : l.sent ≡ sent_to l.l l.increments l.i;
}
