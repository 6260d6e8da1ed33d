-- `station::Limited::mark_for` answers `mark_for`: within the limits a mark is k·P. Assumes nothing.
use mathlib.Core.Path.{◌∙◌}
use Rattle.station.specs.Limits.{mark-for}
use Rattle.station.proofs.Limited.mark_for.Goals as goal

pub returns : goal.returns
returns c = c.mark.ensures ∙ mark-for _ _ c.args.self.limits
