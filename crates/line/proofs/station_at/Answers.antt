-- `line::station_at` answers the station at a place of the table, and nothing past the last or past the table. Assumes nothing.
use Rattle.std.proofs.Common.{◌∙◌, arith}
use Rattle.line.specs.HeldLaws.{place_none, place-some}
use Rattle.std.proofs.lemmas.Grind.{common_steps}
use Rattle.line.proofs.station_at.Goals as goal

pub returns-then-i-l : goal.returns-then-i-l
returns-then-i-l c = c.no_station.ensures ∙ place_none _ _ _ c.if-i-l.true

pub returns : goal.returns
returns c = let e = c.get.ensures.lookup in grind (arith, common_steps, place-some c.args.l.plan.stations c.args.l.stations c.args.i c.if-i-l.false)
