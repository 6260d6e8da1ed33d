-- `run::play_on` plays one event after the other: what is still to be played from where it stands is what was to be played from
-- the start, the record stays valid, and the rounds signed and the line's end are kept beside it. The measure is how many events
-- may still come. Assumes nothing.
use Rattle.std.proofs.Common.{◌≡◌, ◌-◌, ◌≤◌, length}
use Rattle.clock.specs.Limits.{max_script}
use Rattle.run.specs.Part.{standing}
use Rattle.run.specs.Ready.{Beside}
use Rattle.run.proofs.PartLaws.{Onward}
use Rattle.run.proofs.parts.play_on.Given as goal

abbrev pub invariant-loop-next : goal.invariant-loop-next
invariant-loop-next l = record {
  on : Onward l.bytes (standing 0 l.initial.line l.initial.words l.initial.next l.initial.number l.initial.out l.initial.place) (standing 0 l.line l.words l.next l.number l.out l.place);
  beside : Beside l.n l.line l.signed l.end l.long;
  few : l.n ≤ 12;
  places : length l.places ≡ length l.initial.places;
}

abbrev pub decreases-loop-next : goal.decreases-loop-next
decreases-loop-next l = max_script - l.number
