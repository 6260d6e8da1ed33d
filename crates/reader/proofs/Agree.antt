-- A reader reads what the readers by place read: one thing after the other it reads the script, and where a reading stops
-- nothing is left.
use Rattle.std.specs.Prelude.{ℕ, zero, suc, ◌+◌, ◌≤◌, List, [], ◌≡◌, refl, leb, length, drop}
use Rattle.std.proofs.Common.{ap, ◌∙◌, arith}
use Rattle.std.specs.Borrow.{Bor}
use Rattle.clock.specs.Pick.{pick}
use Rattle.number.specs.Number.{Number, Value, Refused, read_number}
use Rattle.script.specs.Read.{Setup, setup, no_setup, read_setup, as_setup, unread, Happening, event, no_event, read_event, as_event, none_read}
use Rattle.script.specs.Read as script
use Rattle.script.specs.Script.{Entries, through, torn, and_entry, on_event, read_entries, with_entries, on_setup, read_script}
use Rattle.script.proofs.ReadLaws.{setup-inside}
use Rattle.reader.specs.declared.Reader.{Reader}
use Rattle.reader.specs.Agree.{events_from, from_setup, script_from, AtEnd}
use Rattle.reader.specs.Laws.{within-past, within-inside, part-past}
use Rattle.reader.specs.Reader.{reader_at, stands_at, as_number, number_at, number_of, after_number, event_of, after_event, setup_of, after_setup, within, part_from, part_ptr, rest_of, rest_ptr}

-- ---- by place

-- what a reader reads is what stands at its place; then it has the same bytes, and stands at the place behind
pub number-agrees : (r : Reader) → (number_of r ≡ as_number r.bytes.now (read_number r.bytes.now r.place)) × (after_number r ≡ reader_at r.bytes (number_of r).next)
unfolding number_of number_at after_number stands_at reader_at
number-agrees r = (refl, refl)

pub event-agrees : (n : ℕ) (r : Reader) → (event_of n r ≡ as_event r.bytes.now (read_event n r.bytes.now r.place)) × (after_event n r ≡ reader_at r.bytes (event_of n r).next)
unfolding event_of after_event stands_at reader_at
event-agrees n r = (refl, refl)

pub setup-agrees : (r : Reader) → (setup_of r ≡ as_setup r.bytes.now (read_setup r.bytes.now r.place)) × (after_setup r ≡ reader_at r.bytes (setup_of r).next)
unfolding setup_of after_setup stands_at reader_at
setup-agrees r = (refl, refl)

-- ---- one after the other

-- the place behind an event that was read is where the reader then stands
behind : (s : List ℕ) (h : Happening) (go : ℕ → Entries)
    → on_event h (λ e next. and_entry e (go (as_event s h).next)) torn ≡ on_event h (λ e next. and_entry e (go next)) torn
unfolding as_event
behind s (event e increments next) go = refl
behind s (no_event number) go = refl

-- they are the events that are read by place
pub events-agree : (most n : ℕ) (r : Reader) → events_from most n r ≡ read_entries most n r.bytes.now r.place
unfolding events_from read_entries after_event event_of stands_at
events-agree zero n r = refl
events-agree (suc most) n r =
    let s : List ℕ = r.bytes.now in
    let h : Happening = read_event n s r.place in
    ap (pick (leb (length s) r.place) (through []))
    (ap (λ (es : Entries). on_event h (λ e next. and_entry e es) torn) (events-agree most n (after_event n r))
    ∙ behind s h (read_entries most n s))

from-agrees : (r : Reader) (x : Setup) → read_setup r.bytes.now r.place ≡ x → from_setup r x ≡ on_setup r.bytes.now x
unfolding after_setup setup_of stands_at as_setup
from-agrees r (setup plan first next) e =
    let s : List ℕ = r.bytes.now in
    ap (with_entries plan first)
    (events-agree (length s) plan.stations (after_setup r)
    ∙ ap (read_entries (length s) plan.stations s) (ap (λ (y : Setup). (as_setup s y).next) e))
from-agrees r (no_setup number) e = refl

-- a reader that stands at the start reads the script
pub script-agrees : (bytes : Bor (List ℕ)) → script_from (reader_at bytes 0) ≡ read_script bytes.now
unfolding script_from read_script reader_at
script-agrees bytes = from-agrees (reader_at bytes 0) (read_setup bytes.now 0) refl

-- ---- where a reading stops

at-end : (r : Reader) → r.place ≡ length r.bytes.now → AtEnd r
unfolding rest_of rest_ptr part_ptr
at-end r e =
    let past : length r.bytes.now ≤ r.place = omega (arith, e) in
    record {
      place = e;
      rest = part-past r.bytes r.place past;
      ptr = ap (λ (k : ℕ). (r.bytes.ref_ptr.0, k + r.bytes.ref_ptr.1)) (within-past r.bytes.now r.place past);
    }

number-next : (s : List ℕ) (a : Number) → ((as_number s a).answer ≡ 0 → ⊥) → (as_number s a).next ≡ length s
unfolding as_number
number-next s (Value v next) h = absurd (h refl)
number-next s (Refused number) h = refl

event-next : (s : List ℕ) (x : Happening) → ((as_event s x).answer ≡ 0 → ⊥) → (as_event s x).next ≡ length s
unfolding as_event none_read
event-next s (event e increments next) h = absurd (h refl)
event-next s (no_event number) h = refl

setup-next : (s : List ℕ) (x : Setup) → ((as_setup s x).answer ≡ 0 → ⊥) → (as_setup s x).next ≡ length s
unfolding as_setup unread
setup-next s (setup plan first next) h = absurd (h refl)
setup-next s (no_setup number) h = refl

-- a refused number, event or setup leaves nothing to be read
pub number-stops : (r : Reader) → ((number_of r).answer ≡ 0 → ⊥) → AtEnd (after_number r)
unfolding after_number number_of number_at stands_at
number-stops r h = at-end (after_number r) (number-next r.bytes.now (read_number r.bytes.now r.place) h)

pub event-stops : (n : ℕ) (r : Reader) → ((event_of n r).answer ≡ 0 → ⊥) → AtEnd (after_event n r)
unfolding after_event event_of stands_at
event-stops n r h = at-end (after_event n r) (event-next r.bytes.now (read_event n r.bytes.now r.place) h)

pub setup-stops : (r : Reader) → ((setup_of r).answer ≡ 0 → ⊥) → AtEnd (after_setup r)
unfolding after_setup setup_of stands_at
setup-stops r h = at-end (after_setup r) (setup-next r.bytes.now (read_setup r.bytes.now r.place) h)

-- ---- the rest behind the setup

-- is the one that `script::rest` hands back
pub rest-agrees : (bytes : Bor (List ℕ))
    → (rest_of (after_setup (reader_at bytes 0)) ≡ script.rest_of bytes.now)
    × ◌≡◌ {A = ℕ × ℕ} (rest_ptr (after_setup (reader_at bytes 0))) (bytes.ref_ptr.0, script.rest_at bytes.now + bytes.ref_ptr.1)
unfolding rest_of rest_ptr part_from part_ptr after_setup setup_of stands_at reader_at script.rest_at script.rest_of
rest-agrees bytes =
    let e : within bytes.now (as_setup bytes.now (read_setup bytes.now 0)).next ≡ (as_setup bytes.now (read_setup bytes.now 0)).next =
    within-inside bytes.now _ (setup-inside bytes.now 0) in
    (ap (λ (k : ℕ). drop k bytes.now) e, ap (λ (k : ℕ). (bytes.ref_ptr.0, k + bytes.ref_ptr.1)) e)
