-- `run::goes_on` asks for the place, the number and the room. Assumes nothing.
use mathlib.Core.Bool.{Bool, ◌&&◌}
use mathlib.Core.Path.{ap}
use lib.Dec.{ltb}
use lib.ListN.{length}
use Rattle.clock.specs.Limits.{max_script}
use Rattle.run.specs.Part.{goes_on}
use Rattle.run.proofs.parts.goes_on.Goals as goal

pub returns : goal.returns
unfolding goes_on
returns c =
    let a = c.args in
    ap (λ (b : Bool). ltb a.next (length a.bytes.now) && ltb a.number max_script && b) c.roomy.ensures
