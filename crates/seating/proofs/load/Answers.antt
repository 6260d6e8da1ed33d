-- One station more is taken out.
use Rattle.std.proofs.Common.{ap, refl, ◌∙◌, replicate, arith, ◌≡◌}
use Rattle.station.specs.declared.Station.{Station}
use Rattle.line.specs.Fresh.{no_stations}
use Rattle.run.specs.Play.{placed_to}
use Rattle.seating.specs.Seating.{placed-none, placed-more, line_to, seated_in}
use Rattle.seating.proofs.load.Goals as goal

pub loop-i-init : goal.loop-i-init
loop-i-init c =
    ap (λ (s : Station). replicate 12 s) c.no_station-stations.ensures ∙ placed-none no_stations c.args.table.now

pub loop-i-preserved : goal.loop-i-preserved
loop-i-preserved c =
    placed-more no_stations c.args.table.now c.loop-i.i (rw c.loop-i.invariant refl) c.take.ensures

pub returns : goal.returns
unfolding line_to
returns c =
    let twelve : c.loop-i.i ≡ 12 = omega arith in
    ap (seated_in c.args.rest _) (c.loop-i.invariant ∙ ap (placed_to no_stations c.args.table.now) twelve)
