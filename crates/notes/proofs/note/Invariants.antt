-- `notes::note` notes the oldest time sent of each pair. The loop's invariant: the notes are those of the messages passed.
-- Assumes nothing.
use Rattle.std.proofs.Common.{◌≡◌}
use Rattle.notes.specs.Notes.{noted}
use Rattle.notes.proofs.note.Given as goal

abbrev pub invariant-loop-i : goal.invariant-loop-i
invariant-loop-i l = l.oldest ≡ noted l.i l.words l.initial.oldest
