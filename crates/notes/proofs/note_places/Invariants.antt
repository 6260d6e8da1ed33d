-- `notes::note_places` notes the messages from the first to the last. The loop's invariant: the notes are those of the messages
-- passed. Assumes nothing.
use Rattle.std.proofs.Common.{◌≡◌, ◌-◌, ◌≤◌}
use Rattle.flight.specs.Message.{places_to}
use Rattle.notes.proofs.note_places.Given as goal

abbrev pub invariant-loop-i : goal.invariant-loop-i
invariant-loop-i l = record {
  most : l.i - l.from ≤ l.to - l.from;
  noted : l.places ≡ places_to l.words l.from (l.i - l.from) l.initial.places;
}
