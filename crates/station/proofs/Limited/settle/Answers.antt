-- `station::Limited::settle` answers `settle`, by its one test. Assumes nothing.
use Rattle.station.specs.Laws.{settle-starts, settle-waits}
use Rattle.station.proofs.Limited.settle.Goals as goal

pub returns-then-self-count : goal.returns-then-self-count
returns-then-self-count c = settle-starts _ _ _ _ c.count.ensures c.if-self-count.true _ c.start.ensures

pub returns : goal.returns
returns c = settle-waits _ _ _ _ c.count.ensures c.if-self-count.false
