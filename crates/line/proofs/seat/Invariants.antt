-- `line::seat` puts each station in its place: after i turns the table is `seated_to` i. Assumes nothing.
use Rattle.std.proofs.Common.{◌≡◌}
use Rattle.line.specs.Fresh.{seated_to}
use Rattle.line.proofs.seat.Given as goal

abbrev pub invariant-loop-i : goal.invariant-loop-i
invariant-loop-i l = l.table ≡ seated_to l.first l.i
