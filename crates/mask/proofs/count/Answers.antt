-- `mask::count` answers `count`: the set digits of a word are its members. Assumes nothing.
use Rattle.std.proofs.Common.{◌∙◌}
use Rattle.mask.specs.Mask.{count}
use Rattle.mask.proofs.Laws.{ones-count}
use Rattle.mask.proofs.count.Goals as goal

pub returns : goal.returns
unfolding count
returns c = c.from.ensures ∙ ones-count 64 c.args.mask c.ranges.mask.fits
