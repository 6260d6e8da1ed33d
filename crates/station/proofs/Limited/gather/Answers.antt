-- `station::Limited::gather` answers `hear`: another round is ignored, and the signers of its own are joined to those it has. Assumes nothing.
use Rattle.station.specs.Laws.{hear-other, hear-own}
use Rattle.station.proofs.Limited.gather.Goals as goal

pub returns-then-round-self : goal.returns-then-round-self
returns-then-round-self c = hear-other _ _ _ _ _ c.if-round-self.true c.still.ensures

pub returns : goal.returns
returns c = hear-own _ _ _ _ _ _ c.if-round-self.false c.join-next.ensures c.settle.ensures
