-- `notes::twins` answers `twins`. The loop's invariant: the place of each word passed is marked, and no two of those words are equal.
-- Assumes nothing.
use Rattle.std.proofs.Common.{◌≡◌, length}
use Rattle.notes.specs.Marks.{Marked, Different}
use Rattle.notes.proofs.twins.Given as goal

abbrev pub invariant-loop-i : goal.invariant-loop-i
invariant-loop-i l = record {
  room : length l.marks ≡ 1024;
  marked : Marked l.i l.words l.marks;
  different : Different l.i l.words;
}
