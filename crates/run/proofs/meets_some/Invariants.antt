-- `run::meets_some` says which of 12, 13 and 14 some station meets: after i turns the three tests say it of the first i. Assumes
-- nothing.
use Rattle.std.proofs.Common.{◌≡◌, []}
use Rattle.line.specs.Record.{some_station}
use Rattle.line.specs.Event.{exceeds_at, drifts_at}
use Rattle.line.specs.Held.{run_of}
use Rattle.run.specs.Advance.{blocked_at}
use Rattle.run.proofs.meets_some.Given as goal

abbrev pub invariant-loop-i : goal.invariant-loop-i
invariant-loop-i l = record {
  exceeds : l.exceeds ≡ some_station (exceeds_at (run_of l.l []) l.increments) l.i;
  drifts : l.drifts ≡ some_station (drifts_at (run_of l.l []) l.d l.increments) l.i;
  passes : l.passes ≡ some_station (blocked_at l.l l.increments) l.i;
}
