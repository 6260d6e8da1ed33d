-- `run::seated` puts each station in its place: after i turns the first i. Assumes nothing.
use Rattle.std.proofs.Common.{◌≡◌}
use Rattle.line.specs.Held.{first_of}
use Rattle.line.specs.Fresh.{no_stations}
use Rattle.run.specs.Play.{placed_to}
use Rattle.run.proofs.parts.seated.Given as goal

abbrev pub invariant-loop-i : goal.invariant-loop-i
invariant-loop-i l = l.stations ≡ placed_to no_stations (first_of l.l.plan.stations l.l.stations) l.i
