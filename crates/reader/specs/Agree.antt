-- What a reader reads one thing after the other, and the end of the script, where nothing is left. That a reader reads what
-- the readers by place read: proofs/Agree.antt.
use Rattle.std.specs.Prelude.{ℕ, zero, suc, ◌+◌, [], ◌≡◌, leb, length}
use Rattle.clock.specs.Pick.{pick}
use Rattle.script.specs.Read.{Setup, setup, no_setup, read_setup, read_event}
use Rattle.script.specs.Script.{Entries, through, torn, and_entry, on_event, Reading, broken, with_entries}
use Rattle.reader.specs.declared.Reader.{Reader}
use Rattle.reader.specs.Reader.{after_event, after_setup, rest_of, rest_ptr}

-- ---- one after the other

-- the events of n stations that a reader reads until nothing is left, at most so many
unfoldable pub events_from : ℕ → ℕ → Reader → Entries
events_from zero n r = pick (leb (length r.bytes.now) r.place) (through []) (torn 0)
events_from (suc most) n r =
    pick (leb (length r.bytes.now) r.place) (through [])
    (on_event (read_event n r.bytes.now r.place) (λ e next. and_entry e (events_from most n (after_event n r))) torn)

-- the script that a reader reads: the setup, then the events
abbrev pub from_setup : Reader → Setup → Reading
from_setup r (setup plan first next) = with_entries plan first (events_from (length r.bytes.now) plan.stations (after_setup r))
from_setup r (no_setup number) = broken number

unfoldable pub script_from : Reader → Reading
script_from r = from_setup r (read_setup r.bytes.now r.place)

-- ---- where a reading stops

-- the empty part at the script's end
pub record AtEnd (r : Reader) : Type 0 where
  pub place : r.place ≡ length r.bytes.now
  pub rest : rest_of r ≡ []
  pub ptr : ◌≡◌ {A = ℕ × ℕ} (rest_ptr r) (r.bytes.ref_ptr.0, length r.bytes.now + r.bytes.ref_ptr.1)
