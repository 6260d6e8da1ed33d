-- What writing into a buffer gives: bytes where there is room for them, else 25; a setup that passes and events that 11 doesn't
-- bar, else the number that refuses them, before 25.
use Rattle.std.specs.Prelude.{ℕ, Result, Ok, Err, ◌+◌, Bool, List, leb, eqb, length}
use Rattle.clock.specs.Pick.{pick, refuse, or_else}
use Rattle.refusal.specs.declared.Refusal.{Refusal}
use Rattle.refusal.specs.Refusal.{number}
use Rattle.setup.specs.declared.Plan.{Plan}
use Rattle.setup.specs.Setup.{plan_answer}
use Rattle.event.specs.declared.Event.{Event}
use Rattle.event.specs.Event.{barred}
use Rattle.number.specs.Number.{bytes_of, laid}

-- how many bytes were written, or the refusal's number
pub data Written : Type 0 where
  Bytes : ℕ → Written
  Refused : ℕ → Written

abbrev pub as_written : Result ℕ Refusal → Written
as_written (Ok n) = Bytes n
as_written (Err r) = Refused (number r)

-- ---- bytes

-- the buffer has room for the bytes from a place on
unfoldable pub room : List ℕ → ℕ → List ℕ → Bool
room out at bytes = leb (at + length bytes) (length out)

-- the answer to writing bytes: how many, or 25
unfoldable pub wrote : List ℕ → ℕ → List ℕ → Written
wrote out at bytes = pick (room out at bytes) (Bytes (length bytes)) (Refused 25)

-- and the buffer then: nothing is written where it is too short
unfoldable pub buffer : List ℕ → ℕ → List ℕ → List ℕ
buffer out at bytes = pick (room out at bytes) (laid out at bytes) out

-- ---- setups and events

-- an event is refused where its line's plan is, and where 11 bars it
unfoldable pub event_answer : Plan → Event → List ℕ → ℕ
event_answer s e increments = or_else (plan_answer s) (refuse (barred s.stations s.faulty e increments) 11 0)

-- the answer to writing these numbers, unless they are refused
unfoldable pub writes : ℕ → List ℕ → ℕ → List ℕ → Written
writes k out at numbers = pick (eqb k 0) (wrote out at (bytes_of numbers)) (Refused k)

-- and the buffer then
unfoldable pub leaves : ℕ → List ℕ → ℕ → List ℕ → List ℕ
leaves k out at numbers = pick (eqb k 0) (buffer out at (bytes_of numbers)) out
