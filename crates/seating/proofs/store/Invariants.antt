-- After i turns the first i stations are put back.
use Rattle.std.proofs.Common.{◌≡◌}
use Rattle.run.specs.Play.{placed_to}
use Rattle.seating.proofs.store.Given as goal

abbrev pub invariant-loop-i : goal.invariant-loop-i
invariant-loop-i l = l.table ≡ placed_to l.fn.table l.s-items l.i
