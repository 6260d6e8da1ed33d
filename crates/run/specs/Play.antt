-- An event on the record that the code holds: the answer, and the run and the words then. An accepted one leaves what document
-- 01's step gives, and a refused one leaves all as it was.
use Rattle.std.specs.Prelude.{ℕ, Result, Ok, Err, zero, suc, true, false, List, [], ◌≡◌, eqb, length, get_or, set}
use Rattle.std.proofs.Math.Path.{refl}
use Rattle.std.proofs.Common.{ap}
use borrow.Author.Tests.{ne_eqb}
use Rattle.clock.specs.Pick.{pick, refuse}
use Rattle.refusal.specs.declared.Refusal.{Refusal}
use Rattle.refusal.specs.Refusal.{number}
use Rattle.station.specs.declared.Station.{Station}
use Rattle.flight.specs.declared.Names.{Names}
use Rattle.flight.specs.Message.{coded}
use Rattle.event.specs.declared.Event.{Event}
use Rattle.event.specs.Event.{barred}
use Rattle.event.specs.declared.Event.TheVariants.{Deliver, Send}
use Rattle.line.specs.declared.Line.{Line}
use Rattle.line.specs.Run.{Run, no_station}
use Rattle.line.specs.Event.{effect, event_rules, step_answer}
use Rattle.line.specs.Held.{run_of, bad_line}

-- ---- the record of a run

-- the first k stations put in their places; what stands behind keeps its place
unfoldable pub placed_to : List Station → List Station → ℕ → List Station
placed_to table stations zero = table
placed_to table stations (suc k) = set (placed_to table stations k) k (get_or stations k no_station)

-- the record l with this run in it
unfoldable pub holding : Line → Run → Line
holding l r = record {
  plan = l.plan;
  time = record { 0 = r.time };
  length = l.length;
  stations = placed_to l.stations r.stations l.plan.stations;
  count = length r.flight;
}

-- ---- what an event comes to

-- what it comes to: 0, or the number that refuses it, and the run then
pub record Played : Type 0 where
  pub answer : ℕ
  pub line : Line

-- refused, the run is as it was
abbrev pub as_played : Line → Result Line Refusal → Played
as_played l (Ok next) = record { answer = 0; line = next }
as_played l (Err r) = record { answer = number r; line = l }

-- the answer, and where it is 0 the run that the event leaves
unfoldable pub comes : ℕ → Line → Run → Played
comes answer l r = record { answer = answer; line = pick (eqb answer 0) (holding l r) l }

-- the words then: the messages of that run laid over them
unfoldable pub comes_words : ℕ → List ℕ → Run → List ℕ
comes_words answer words r = pick (eqb answer 0) (coded words r.flight) words

-- an event of any record
unfoldable pub play_answer : Line → List ℕ → Event → List ℕ → ℕ
play_answer l words e increments = refuse (bad_line l words) 10 (step_answer (run_of l words) e increments)

abbrev pub played : Line → List ℕ → Event → List ℕ → Played
played l words e increments = comes (play_answer l words e increments) l (effect (run_of l words) e increments)

abbrev pub played_words : Line → List ℕ → Event → List ℕ → List ℕ
played_words l words e increments = comes_words (play_answer l words e increments) words (effect (run_of l words) e increments)

-- of a valid one
abbrev pub stepped : Line → List ℕ → Event → List ℕ → Played
stepped l words e increments = comes (step_answer (run_of l words) e increments) l (effect (run_of l words) e increments)

abbrev pub stepped_words : Line → List ℕ → Event → List ℕ → List ℕ
stepped_words l words e increments = comes_words (step_answer (run_of l words) e increments) words (effect (run_of l words) e increments)

-- and one that 11 does not bar
abbrev pub ruled : Line → List ℕ → Event → List ℕ → Played
ruled l words e increments = comes (event_rules (run_of l words) e increments) l (effect (run_of l words) e increments)

abbrev pub ruled_words : Line → List ℕ → Event → List ℕ → List ℕ
ruled_words l words e increments = comes_words (event_rules (run_of l words) e increments) words (effect (run_of l words) e increments)

-- the deliver of the message with these names
abbrev pub deliver_of : Names → Event
deliver_of x = Deliver x.sender x.recipient x.round x.kind

-- ---- accepted and refused

module _ (l : Line) (words : List ℕ) (r : Run) (answer : ℕ) where
  -- refused, all is as it was
  pub comes-no : (k : ℕ) → answer ≡ k → (k ≡ 0 → ⊥)
      → (record { answer = k; line = l } ≡ comes answer l r) × (words ≡ comes_words answer words r)
  unfolding comes comes_words
  comes-no k e z = rw (e, ne_eqb k 0 z) (refl, refl)

  -- accepted, the run that the event leaves
  pub comes-yes : (next : Line) (after : List ℕ) → answer ≡ 0 → next ≡ holding l r → after ≡ coded words r.flight
      → (record { answer = 0; line = next } ≡ comes answer l r) × (after ≡ comes_words answer words r)
  unfolding comes comes_words
  comes-yes next after e f g = rw e (ap (λ (x : Line). record { answer = 0; line = x }) f, g)

-- ---- one event after its own function

module _ (l : Line) (words : List ℕ) where
  -- 11
  pub step-barred : (e : Event) (increments : List ℕ) → barred l.plan.stations l.plan.faulty e increments ≡ true
      → step_answer (run_of l words) e increments ≡ 11
  unfolding step_answer run_of
  step-barred e increments b = rw b refl

  -- one that 11 does not bar comes to what its own table answers
  pub step-comes : (e f : Event) (increments : List ℕ) (p : Played) (w : List ℕ) → e ≡ f
      → barred l.plan.stations l.plan.faulty e increments ≡ false → p ≡ ruled l words f increments → w ≡ ruled_words l words f increments
      → (p ≡ stepped l words e increments) × (w ≡ stepped_words l words e increments)
  unfolding step_answer run_of
  step-comes e f increments p w q b ep ew = rw (b, q) (ep, ew)

  -- a deliver and a faulty send have no increments
  pub deliver-any : (x : Names) (increments : List ℕ)
      → (ruled l words (deliver_of x) [] ≡ ruled l words (deliver_of x) increments)
      × (ruled_words l words (deliver_of x) [] ≡ ruled_words l words (deliver_of x) increments)
  unfolding event_rules effect
  deliver-any x increments = (refl, refl)

  pub send-any : (sender recipient round signers : ℕ) (increments : List ℕ)
      → (ruled l words (Send sender recipient round signers) [] ≡ ruled l words (Send sender recipient round signers) increments)
      × (ruled_words l words (Send sender recipient round signers) [] ≡ ruled_words l words (Send sender recipient round signers) increments)
  unfolding event_rules effect
  send-any sender recipient round signers increments = (refl, refl)
