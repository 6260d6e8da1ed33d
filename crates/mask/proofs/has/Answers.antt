-- `mask::has` answers `has`: a word has no bit at 64 or above. Assumes nothing.
use mathlib.Core.Path.{sym}
use Rattle.mask.proofs.Laws.{has-below}
use Rattle.mask.proofs.has.Goals as goal

pub returns-then-i-ge64 : goal.returns-then-i-ge64
returns-then-i-ge64 c = sym (has-below c.args.mask 64 c.args.i c.ranges.mask.fits c.if-i-ge64.true)
