-- The script reader, document 01, "Scripts": it keeps the lent bytes and its place together.
use Rattle.std.specs.Prelude.{ℕ, Result, Ok, Err, ◌+◌, List, leb, length, drop}
use Rattle.std.specs.Borrow.{Bor}
use Rattle.clock.specs.Pick.{pick}
use Rattle.refusal.specs.declared.Refusal.{Refusal}
use Rattle.refusal.specs.Refusal.{number}
use Rattle.number.specs.Number.{Number, Value, Refused, read_number}
use Rattle.script.specs.Read.{SetupRead, EventRead, as_event, read_event, as_setup, read_setup}
use Rattle.reader.specs.declared.Reader.{Reader}

-- the reader that stands at a place of the lent bytes
unfoldable pub reader_at : Bor (List ℕ) → ℕ → Reader
reader_at bytes place = record { bytes = bytes; place = place }

-- the same bytes, and another place
unfoldable pub stands_at : Reader → ℕ → Reader
stands_at r place = record { bytes = r.bytes; place = place }

-- ---- a number

-- the answer with the value and the place behind it
pub record NumberRead : Type 0 where
  pub answer : ℕ
  pub value : ℕ
  pub next : ℕ

-- as it is told by a reader that then stands at a place
abbrev pub told_number : ℕ → Result ℕ Refusal → NumberRead
told_number place (Ok v) = record { answer = 0; value = v; next = place }
told_number place (Err r) = record { answer = number r; value = 0; next = place }

-- a number that was read whole and the place behind it; after a refusal the value is zero and the place is the script's end
unfoldable pub as_number : List ℕ → Number → NumberRead
as_number s (Value v next) = record { answer = 0; value = v; next = next }
as_number s (Refused k) = record { answer = k; value = 0; next = length s }

-- the number at a place of the bytes
unfoldable pub number_at : List ℕ → ℕ → NumberRead
number_at s at = as_number s (read_number s at)

-- the number that a reader reads, and the reader then
unfoldable pub number_of : Reader → NumberRead
number_of r = number_at r.bytes.now r.place

unfoldable pub after_number : Reader → Reader
after_number r = stands_at r (number_of r).next

-- ---- an event

-- the event of n stations that a reader reads, and the reader then
unfoldable pub event_of : ℕ → Reader → EventRead
event_of n r = as_event r.bytes.now (read_event n r.bytes.now r.place)

unfoldable pub after_event : ℕ → Reader → Reader
after_event n r = stands_at r (event_of n r).next

-- ---- the setup

-- the setup that a reader reads, and the reader then
unfoldable pub setup_of : Reader → SetupRead
setup_of r = as_setup r.bytes.now (read_setup r.bytes.now r.place)

unfoldable pub after_setup : Reader → Reader
after_setup r = stands_at r (setup_of r).next

-- ---- the rest

-- a place of the bytes, or their end where it is past them
unfoldable pub within : List ℕ → ℕ → ℕ
within s at = pick (leb (length s) at) (length s) at

-- the part of lent bytes from a place on, and its address: that same part and no copy
unfoldable pub part_from : Bor (List ℕ) → ℕ → List ℕ
part_from b at = drop (within b.now at) b.now

unfoldable pub part_ptr : Bor (List ℕ) → ℕ → ℕ × ℕ
part_ptr b at = (b.ref_ptr.0, within b.now at + b.ref_ptr.1)

-- the unread rest, and its address
unfoldable pub rest_of : Reader → List ℕ
rest_of r = part_from r.bytes r.place

unfoldable pub rest_ptr : Reader → ℕ × ℕ
rest_ptr r = part_ptr r.bytes r.place
