-- Setups and events as numbers, document 01, "Scripts": what reading one at a place gives.
use Rattle.std.specs.Prelude.{ℕ, Result, Ok, Err, zero, suc, ◌-◌, List, [], ◌∷◌, ◌++◌, eqb, length, get_or, drop, replicate}
use Rattle.clock.specs.Limits.{max_stations}
use Rattle.clock.specs.Pick.{pick}
use Rattle.clock.specs.Tests.{outside}
use Rattle.setup.specs.declared.Plan.{Plan}
use Rattle.event.specs.declared.Event.{Event}
use Rattle.event.specs.declared.Event.TheVariants.{Advance, Deliver, Send}
use Rattle.refusal.specs.declared.Refusal.{Refusal}
use Rattle.refusal.specs.Refusal.{number}
use Rattle.number.specs.Number.{Number, Value, Refused, read_number}
use Rattle.script.specs.declared.read.Numbers as some
use Rattle.script.specs.declared.read.SetupRead as whole
use Rattle.script.specs.declared.read.EventRead as one

-- what follows a number: it goes on with the value and the place behind it, or passes the refusal on
abbrev pub on_number : {A : Type 0} → Number → (ℕ → ℕ → A) → (ℕ → A) → A
on_number (Value v next) go stop = go v next
on_number (Refused k) go stop = stop k

-- the number of a refusal; 0 where there is none
unfoldable pub refusal_of : Number → ℕ
refusal_of (Value v next) = 0
refusal_of (Refused k) = k

-- ---- several numbers

-- numbers that were read whole and the place behind them, or the refusal that stopped the reading
pub data Many : Type 0 where
  many : List ℕ → ℕ → Many
  stopped : ℕ → Many

-- with a number in front
abbrev pub and_many : ℕ → Many → Many
and_many v (many vs next) = many (v ∷ vs) next
and_many v (stopped k) = stopped k

-- so many numbers, one behind the other
unfoldable pub read_many : ℕ → List ℕ → ℕ → Many
read_many zero s at = many [] at
read_many (suc k) s at = on_number (read_number s at) (λ v next. and_many v (read_many k s next)) stopped

-- twelve places, the numbers first and zeros behind them
unfoldable pub padded : List ℕ → List ℕ
padded vs = vs ++ replicate (12 - length vs) 0

-- the answer with the numbers and the place behind them
pub record Numbers : Type 0 where
  pub answer : ℕ
  pub values : List ℕ
  pub next : ℕ

-- after a refusal there are none, and the place is the script's end
abbrev pub told_numbers : List ℕ → Result some.Numbers Refusal → Numbers
told_numbers s (Ok r) = record { answer = 0; values = r.values; next = r.next }
told_numbers s (Err r) = record { answer = number r; values = replicate 12 0; next = length s }

-- the numbers as the code holds them; after a refusal none, and the place is the script's end
unfoldable pub as_numbers : List ℕ → Many → Numbers
as_numbers s (many vs next) = record { answer = 0; values = padded vs; next = next }
as_numbers s (stopped k) = record { answer = k; values = replicate 12 0; next = length s }

-- ---- setups

-- a setup that was read to its end and the place behind it, or the refusal that stopped the reading
pub data Setup : Type 0 where
  setup : Plan → List ℕ → ℕ → Setup
  no_setup : ℕ → Setup

-- n and the seven numbers behind it: f, r, T, D, A, P and the faulty mask
unfoldable pub plan_of : ℕ → List ℕ → Plan
plan_of n vs = record {
  stations = n;
  faults = get_or vs 0 0;
  drift = get_or vs 1 0;
  bound = get_or vs 2 0;
  spread = get_or vs 3 0;
  step = get_or vs 4 0;
  period = get_or vs 5 0;
  faulty = get_or vs 6 0;
}

-- the first readings, behind the plan's numbers
abbrev pub with_first : ℕ → List ℕ → Many → Setup
with_first n vs (many first next) = setup (plan_of n vs) first next
with_first n vs (stopped k) = no_setup k

-- the seven numbers, and then n first readings
abbrev pub with_plan : List ℕ → ℕ → Many → Setup
with_plan s n (many vs next) = with_first n vs (read_many n s next)
with_plan s n (stopped k) = no_setup k

-- as n gives the length, 1 is answered as soon as n is read
unfoldable pub setup_from : List ℕ → ℕ → ℕ → Setup
setup_from s n next = pick (outside 1 max_stations n) (no_setup 1) (with_plan s n (read_many 7 s next))

-- the setup at a place of the bytes
unfoldable pub read_setup : List ℕ → ℕ → Setup
read_setup s at = on_number (read_number s at) (setup_from s) no_setup

-- the answer with the setup and the place behind it
pub record SetupRead : Type 0 where
  pub answer : ℕ
  pub plan : Plan
  pub first : List ℕ
  pub next : ℕ

-- a setup whose reading stopped: all is zero
unfoldable pub unread : ℕ → ℕ → SetupRead
unread k end = record {
  answer = k;
  plan = record { stations = 0; faults = 0; drift = 0; bound = 0; spread = 0; step = 0; period = 0; faulty = 0 };
  first = replicate 12 0;
  next = end;
}

-- after a refusal all is zero, and the place is the script's end
abbrev pub told_setup : List ℕ → Result whole.SetupRead Refusal → SetupRead
told_setup s (Ok r) = record { answer = 0; plan = r.plan; first = r.first; next = r.next }
told_setup s (Err r) = unread (number r) (length s)

-- the setup as the code holds it; after a refusal the place is the script's end
unfoldable pub as_setup : List ℕ → Setup → SetupRead
as_setup s (setup plan first next) = record { answer = 0; plan = plan; first = padded first; next = next }
as_setup s (no_setup k) = unread k (length s)

-- where the unread rest of a script begins, behind its setup; at its end, where the reading stopped
unfoldable pub rest_at : List ℕ → ℕ
rest_at s = (as_setup s (read_setup s 0)).next

-- the unread rest
unfoldable pub rest_of : List ℕ → List ℕ
rest_of s = drop (rest_at s) s

-- ---- events

-- an event that was read to its end, its increments and the place behind it, or the refusal that stopped the reading
pub data Happening : Type 0 where
  event : Event → List ℕ → ℕ → Happening
  no_event : ℕ → Happening

-- d and n increments
abbrev pub with_increments : ℕ → Many → Happening
with_increments d (many increments next) = event (Advance d) increments next
with_increments d (stopped k) = no_event k

-- sender, recipient, round and message kind
abbrev pub deliver_from : Many → Happening
deliver_from (many vs next) = event (Deliver (get_or vs 0 0) (get_or vs 1 0) (get_or vs 2 0) (get_or vs 3 0)) [] next
deliver_from (stopped k) = no_event k

-- sender, recipient, round and signers
abbrev pub send_from : Many → Happening
send_from (many vs next) = event (Send (get_or vs 0 0) (get_or vs 1 0) (get_or vs 2 0) (get_or vs 3 0)) [] next
send_from (stopped k) = no_event k

-- an advance of n stations
unfoldable pub advance_from : ℕ → List ℕ → ℕ → Happening
advance_from n s at = on_number (read_number s at) (λ d next. with_increments d (read_many n s next)) no_event

-- what stands behind the kind of an event: 24 for an unknown one
unfoldable pub event_from : ℕ → List ℕ → ℕ → ℕ → Happening
event_from n s kind next =
    pick (eqb kind 1) (advance_from n s next)
    (pick (eqb kind 2) (deliver_from (read_many 4 s next)) (pick (eqb kind 3) (send_from (read_many 4 s next)) (no_event 24)))

-- the event of n stations at a place of the bytes; 1 for an n that no setup has
unfoldable pub read_event : ℕ → List ℕ → ℕ → Happening
read_event n s at = pick (outside 1 max_stations n) (no_event 1) (on_number (read_number s at) (event_from n s) no_event)

-- the answer with the event, its increments and the place behind it
pub record EventRead : Type 0 where
  pub answer : ℕ
  pub event : Event
  pub increments : List ℕ
  pub next : ℕ

-- an event whose reading stopped: all is zero
unfoldable pub none_read : ℕ → ℕ → EventRead
none_read k end = record { answer = k; event = Advance 0; increments = replicate 12 0; next = end }

-- after a refusal all is zero, and the place is the script's end
abbrev pub told_event : List ℕ → Result one.EventRead Refusal → EventRead
told_event s (Ok r) = record { answer = 0; event = r.event; increments = r.increments; next = r.next }
told_event s (Err r) = none_read (number r) (length s)

-- the event as the code holds it; after a refusal the place is the script's end
unfoldable pub as_event : List ℕ → Happening → EventRead
as_event s (event e increments next) = record { answer = 0; event = e; increments = padded increments; next = next }
as_event s (no_event k) = none_read k (length s)
