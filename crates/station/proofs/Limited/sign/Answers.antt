-- `station::Limited::sign` answers `sign`: its own signature is joined to those it has. Assumes nothing.
use Rattle.station.specs.Laws.{sign-is}
use Rattle.station.proofs.Limited.sign.Goals as goal

pub returns : goal.returns
returns c = sign-is _ _ _ _ _ _ c.only.ensures c.join-next.ensures c.settle.ensures
