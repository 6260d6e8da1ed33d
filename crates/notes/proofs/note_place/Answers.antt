-- `notes::note_place` answers `set`: past the end that changes nothing. Assumes nothing.
use mathlib.Core.Path.{sym}
use lib.Seq.{set_out}
use Rattle.notes.proofs.note_place.Goals as goal

pub returns-else-at-places : goal.returns-else-at-places
returns-else-at-places c = let a = c.args in sym (set_out a.places.now a.at a.i c.if-at-places.false)
