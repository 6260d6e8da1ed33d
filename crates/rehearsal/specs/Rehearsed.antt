-- A rehearsal: the lines of a run's events from a place on, all that `rehearse` prints, and what a part of a script writes of it.
use Prim.Native.Nat.{ℕ, zero, suc, ◌+◌, ◌-◌}
use Rattle.std.specs.Prelude.{◌≡◌, ltb, eqb, length, take}
use mathlib.Core.List.{List, [], ◌++◌}
use Rattle.clock.specs.Limits.{max_script}
use Rattle.clock.specs.Pick.{pick}
use Rattle.event.specs.declared.Event.{Event}
use Rattle.number.specs.Number.{laid}
use Rattle.script.specs.Read.{SetupRead}
use Rattle.script.specs.Read.{read_setup, as_setup, read_event, as_event}
use Rattle.line.specs.Run.{Run, fresh}
use Rattle.line.specs.Event.{event_answer, step}
use Rattle.line.specs.Held.{run_of}
use Rattle.text.specs.Text.{event_line, script_line}
use Rattle.run.specs.Part.{Standing}
use Rattle.rehearsal.specs.Opening.{opening}

-- ---- the lines of a rehearsal

-- the event's line, and what follows it
abbrev pub line_then : ℕ → Run → Event → List ℕ → (Run → List ℕ) → List ℕ
line_then number r e increments rest = event_line number (event_answer r e increments) (step r e increments) ++ rest (step r e increments)

-- the lines of a run's events from a place on, at most so many; where the script can't be read on, `script` and the number
unfoldable pub lines_from : ℕ → List ℕ → ℕ → ℕ → Run → List ℕ
lines_from zero bytes at number r = []
lines_from (suc most) bytes at number r =
    pick (ltb at (length bytes))
    (pick (eqb (as_event bytes (read_event r.plan.stations bytes at)).answer 0)
    (line_then (number + 1) r (as_event bytes (read_event r.plan.stations bytes at)).event
    (take r.plan.stations (as_event bytes (read_event r.plan.stations bytes at)).increments)
    (lines_from most bytes (as_event bytes (read_event r.plan.stations bytes at)).next (number + 1)))
    (script_line (as_event bytes (read_event r.plan.stations bytes at)).answer))
    []

-- what is still to be written where the playing stands
unfoldable pub rest_of : List ℕ → Standing → List ℕ
rest_of bytes s = pick (eqb s.answer 0) (lines_from (max_script - s.number) bytes s.next s.number (run_of s.line s.words)) []

-- ---- the whole rehearsal

-- the setup of a script, and the fresh run of it
abbrev pub setup_at : List ℕ → SetupRead
setup_at bytes = as_setup bytes (read_setup bytes 0)

abbrev pub fresh_of : List ℕ → Run
fresh_of bytes = fresh (setup_at bytes).plan (take (setup_at bytes).plan.stations (setup_at bytes).first)

-- what `rehearse` prints, document 01, "One rehearsal in full": the first line; then, where the setup is accepted, the lines of
-- the fresh run's events
unfoldable pub rehearsal : List ℕ → List ℕ
rehearsal bytes =
    (opening bytes).first ++ pick (eqb (opening bytes).answer 0) (lines_from max_script bytes (opening bytes).next 0 (fresh_of bytes)) []

-- ---- what a part writes of them

-- the lines that are written from here on, and those of the rest, are all the lines from here on
pub record Wrote (bytes : List ℕ) (here end : Standing) : Type 0 where
  pub lines : List ℕ
  pub place : end.place ≡ here.place + length lines
  pub out : end.out ≡ laid here.out here.place lines
  pub whole : lines ++ rest_of bytes end ≡ rest_of bytes here
