-- `station::Limited::start` answers `start`: the mark and A are far from the end of a word. Assumes nothing.
use Rattle.station.specs.Laws.{start_is}
use Rattle.station.proofs.Limited.start.Goals as goal

pub returns : goal.returns
returns c = start_is _ _ c.args.self.limits _ _ c.mark_for.ensures c.on.ensures
