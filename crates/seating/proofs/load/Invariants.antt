-- After i turns the first i stations are taken out.
use Rattle.std.proofs.Common.{◌≡◌}
use Rattle.line.specs.Fresh.{no_stations}
use Rattle.run.specs.Play.{placed_to}
use Rattle.seating.proofs.load.Given as goal

abbrev pub invariant-loop-i : goal.invariant-loop-i
invariant-loop-i l = l.stations ≡ placed_to no_stations l.table l.i
