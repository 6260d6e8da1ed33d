-- `run::seated` puts each station in its place: after i turns the first i. Assumes nothing.
use Rattle.std.proofs.Common.{arith}
use Rattle.run.proofs.PartLaws.{seated-none, seated-next, seated-all}
use Rattle.run.proofs.parts.seated.Goals as goal

pub loop-i-init : goal.loop-i-init
loop-i-init c = rw c.no_station-stations.ensures (seated-none c.args.l)

pub loop-i-preserved : goal.loop-i-preserved
loop-i-preserved c = seated-next c.args.l _ c.requires c.loop-i.invariant c.station.ensures

pub returns : goal.returns
returns c = seated-all c.args.l _ (omega arith) c.loop-i.invariant
