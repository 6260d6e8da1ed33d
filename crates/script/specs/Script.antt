-- A whole script: the setup, then events to the end of the bytes.
use Rattle.std.specs.Prelude.{ℕ, zero, suc, List, [], ◌∷◌, ◌++◌, leb, length}
use Rattle.clock.specs.Pick.{pick}
use Rattle.setup.specs.declared.Plan.{Plan}
use Rattle.event.specs.declared.Event.{Event}
use Rattle.number.specs.Number.{bytes_of}
use Rattle.script.specs.Read.{Setup, setup, no_setup, read_setup, Happening, event, no_event, read_event}
use Rattle.script.specs.Write.{setup_numbers, event_numbers}

-- an event and its increments, none for a message
pub record Entry : Type 0 where
  pub event : Event
  pub increments : List ℕ

-- a plan, its first readings and the events
pub record Script : Type 0 where
  pub plan : Plan
  pub first : List ℕ
  pub entries : List Entry

-- ---- writing

unfoldable pub entries_bytes : List Entry → List ℕ
entries_bytes [] = []
entries_bytes (e ∷ es) = bytes_of (event_numbers e.event e.increments) ++ entries_bytes es

-- the bytes of a script: its setup and its events, one behind the other
unfoldable pub script_bytes : Script → List ℕ
script_bytes x = bytes_of (setup_numbers x.plan x.first) ++ entries_bytes x.entries

-- ---- reading

-- the events of a script that reads through, or the refusal that stopped the reading
pub data Entries : Type 0 where
  through : List Entry → Entries
  torn : ℕ → Entries

abbrev pub and_entry : Entry → Entries → Entries
and_entry e (through es) = through (e ∷ es)
and_entry e (torn number) = torn number

-- what follows an event
abbrev pub on_event : {A : Type 0} → Happening → (Entry → ℕ → A) → (ℕ → A) → A
on_event (event e increments next) go stop = go (record { event = e; increments = increments }) next
on_event (no_event number) go stop = stop number

-- the events of n stations from a place to the end, at most so many: each takes a byte at least, so that the length of the
-- bytes is enough
unfoldable pub read_entries : ℕ → ℕ → List ℕ → ℕ → Entries
read_entries zero n s at = pick (leb (length s) at) (through []) (torn 0)
read_entries (suc most) n s at =
    pick (leb (length s) at) (through [])
    (on_event (read_event n s at) (λ e next. and_entry e (read_entries most n s next)) torn)

-- a script that reads through, or the refusal that stopped the reading
pub data Reading : Type 0 where
  whole : Script → Reading
  broken : ℕ → Reading

abbrev pub with_entries : Plan → List ℕ → Entries → Reading
with_entries plan first (through es) = whole (record { plan = plan; first = first; entries = es })
with_entries plan first (torn number) = broken number

abbrev pub on_setup : List ℕ → Setup → Reading
on_setup s (setup plan first next) = with_entries plan first (read_entries (length s) plan.stations s next)
on_setup s (no_setup number) = broken number

unfoldable pub read_script : List ℕ → Reading
read_script s = on_setup s (read_setup s 0)
