-- `flight::packs` answers `packs`: the tests are the definition's own. Assumes nothing.
use mathlib.Core.Path.{refl}
use Rattle.flight.specs.Message.{packs}
use Rattle.flight.proofs.packs.Goals as goal

pub returns : goal.returns
unfolding packs
returns c = refl
