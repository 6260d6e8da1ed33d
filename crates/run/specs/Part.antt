-- A part of a script, played event by event: what each event comes to, and its line behind the last one, for as long as there
-- are events and room for their lines.
use Rattle.std.specs.Prelude.{ℕ, zero, suc, ◌+◌, ◌-◌, Bool, ◌&&◌, List, [], ltb, eqb, length, take}
use Rattle.clock.specs.Limits.{max_script}
use Rattle.clock.specs.Pick.{pick}
use Rattle.refusal.specs.Refusal.{stop}
use Rattle.event.specs.declared.Event.{Event}
use Rattle.number.specs.Number.{laid}
use Rattle.script.specs.Read.{EventRead, read_event, as_event}
use Rattle.line.specs.declared.Line.{Line}
use Rattle.line.specs.Held.{first_of, run_of, bad_line}
use Rattle.line.specs.Fresh.{no_stations}
use Rattle.text.specs.Text.{event_line, script_line, roomy}
use Rattle.run.specs.declared.parts.Part as code
use Rattle.run.specs.Play.{placed_to, play_answer, played as event_played, played_words}

-- where the playing stands: its answer, the record and its words, the place of the next event, the number of the last one
-- played, the buffer and the place behind the last line
pub record Standing : Type 0 where
  pub answer : ℕ
  pub line : Line
  pub words : List ℕ
  pub next : ℕ
  pub number : ℕ
  pub out : List ℕ
  pub place : ℕ

-- an event stands at the place, and the buffer has room for its line; a script has no more events than bytes
unfoldable pub goes_on : List ℕ → ℕ → ℕ → List ℕ → ℕ → Bool
goes_on bytes next number out place = ltb next (length bytes) && ltb number max_script && roomy out place

-- the line of the next event: its number and answer, and the run that it leaves
unfoldable pub line_of : Standing → Event → List ℕ → List ℕ
line_of s e increments =
    event_line (s.number + 1) (play_answer s.line s.words e increments) (run_of (event_played s.line s.words e increments).line [])

-- after it
unfoldable pub after : Standing → Event → List ℕ → ℕ → Standing
after s e increments next = record {
  answer = 0;
  line = (event_played s.line s.words e increments).line;
  words = played_words s.line s.words e increments;
  next = next;
  number = s.number + 1;
  out = laid s.out s.place (line_of s e increments);
  place = s.place + length (line_of s e increments);
}

-- where the script can't be read on, with the line that says so
unfoldable pub stops : Standing → ℕ → ℕ → Standing
stops s number end = record {
  answer = number;
  line = s.line;
  words = s.words;
  next = end;
  number = s.number;
  out = laid s.out s.place (script_line number);
  place = s.place + length (script_line number);
}

-- what is read at the place: an event of n stations, or the refusal that stops the reading
abbrev pub read_at : List ℕ → Standing → EventRead
read_at bytes s = as_event bytes (read_event s.line.plan.stations bytes s.next)

-- at most so many events on
unfoldable pub played_from : ℕ → List ℕ → Standing → Standing
played_from zero bytes s = s
played_from (suc most) bytes s =
    pick (goes_on bytes s.next s.number s.out s.place)
    (pick (eqb (read_at bytes s).answer 0)
    (played_from most bytes (after s (read_at bytes s).event (take s.line.plan.stations (read_at bytes s).increments) (read_at bytes s).next))
    (stops s (read_at bytes s).answer (read_at bytes s).next))
    s

-- the run in a table with nothing behind its stations
unfoldable pub seated : Line → Line
seated l = record {
  plan = l.plan;
  time = l.time;
  length = l.length;
  stations = placed_to no_stations (first_of l.plan.stations l.stations) l.plan.stations;
  count = l.count;
}

-- where it stands at first
abbrev pub standing : ℕ → Line → List ℕ → ℕ → ℕ → List ℕ → ℕ → Standing
standing answer l words next number out place = record {
  answer = answer;
  line = l;
  words = words;
  next = next;
  number = number;
  out = out;
  place = place;
}

-- a part of a script: 10, or its events one after the other
unfoldable pub played : Line → List ℕ → List ℕ → ℕ → ℕ → List ℕ → ℕ → Standing
played l words bytes at number out place =
    pick (bad_line l words) (standing 10 l words at number out place)
    (played_from (max_script - number) bytes (standing 0 (seated l) words at number out place))

-- how far a script is played: 0, or 10 for the record, or 21 to 24 where the script can't be read on; the run, the place of the
-- next event, the number of the last one played and the place behind its line
pub record Part : Type 0 where
  pub answer : ℕ
  pub line : Line
  pub next : ℕ
  pub number : ℕ
  pub place : ℕ

abbrev pub as_part : code.Part → Part
as_part p = record { answer = stop p.stop; line = p.line; next = p.next; number = p.number; place = p.place }

-- as the code answers it
abbrev pub part_of : Standing → Part
part_of s = record { answer = s.answer; line = s.line; next = s.next; number = s.number; place = s.place }
