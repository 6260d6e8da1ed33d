-- `run::note_signed` notes the last signed rounds: after i turns those of the first i stations. Assumes nothing.
use Rattle.std.proofs.Common.{◌≡◌, ap, ◌∙◌, arith}
use Rattle.run.specs.Limits.{table-station}
use Rattle.run.specs.Hearing.{signed_to, signed-none, signed-next}
use Rattle.run.proofs.note_signed.Goals as goal

pub loop-i-init : goal.loop-i-init
loop-i-init c = signed-none _ _

pub loop-i-preserved : goal.loop-i-preserved
loop-i-preserved c =
    let a = c.args in
    signed-next a.l _ c.loop-i.i c.loop-i.invariant (table-station a.l c.loop-i.i (omega arith))

pub returns : goal.returns
returns c =
    let s : c.loop-i.i ≡ c.args.l.plan.stations = omega arith in
    c.loop-i.invariant ∙ ap (signed_to _ _) s
