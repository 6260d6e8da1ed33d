-- `station::Limited::bad_signed` answers `bad_signed`, by whether the reading is past the mark. Assumes nothing.
use Rattle.station.specs.Laws.{signed-past, signed-before}
use Rattle.station.proofs.Limited.bad_signed.Goals as goal

pub returns-then-mark-s : goal.returns-then-mark-s
returns-then-mark-s c = signed-past _ _ _ c.mark_for-mark.ensures c.if-mark-s.true

pub returns : goal.returns
returns c = signed-before _ _ _ c.mark_for-mark.ensures c.if-mark-s.false
