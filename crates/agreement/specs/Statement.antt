-- Demand 3 of document 01, of the run that `line` defines and no other: four sentences about every setup, every list of events,
-- refused ones among them, and every moment.
use Rattle.std.specs.Prelude.{ℕ, suc, ◌+◌, ◌*◌, ◌<◌, ◌≤◌, List, [], ◌≡◌, get_or, take}
use Rattle.setup.specs.declared.Plan.{Plan}
use Rattle.station.specs.declared.Station.{Station}
use Rattle.event.specs.declared.Event.{Event}
use Rattle.event.specs.declared.Event.TheVariants.{Advance, Deliver, Send}
use Rattle.line.specs.Run.{Run, station_at, fresh}
use Rattle.line.specs.Event.{event_answer}
use Rattle.line.specs.Valid.{Sound}
use Rattle.line.specs.History.{Entry, played}

-- ---- the history

-- the run after the first i events
unfoldable pub after : Plan → List ℕ → List Entry → ℕ → Run
after plan first es i = played (fresh plan first) (take i es)

-- past the last event stands one that is always refused
abbrev pub no_entry : Entry
no_entry = record { event = Advance 0; increments = [] }

-- the i-th event, counted from 0
abbrev pub entry : List Entry → ℕ → Entry
entry es i = get_or es i no_entry

-- an advance brings station w's clock up to the mark of round k while w waits for k: the clock shows the mark
pub record Shows (r : Run) (e : Event) (increments : List ℕ) (w k : ℕ) : Type 0 where
  pub span : ℕ
  pub advance : e ≡ Advance span
  pub accepted : event_answer r e increments ≡ 0
  pub sound : Sound r.plan w
  pub waiting : (station_at r w).round + 1 ≡ k
  pub below : (station_at r w).reading.0 < k * r.plan.period
  pub reaches : (station_at r w).reading.0 + get_or increments w 0 ≡ k * r.plan.period

-- by how much an event moves station p's clock before anybody starts
unfoldable pub moved : Event → List ℕ → ℕ → ℕ
moved (Advance d) increments p = get_or increments p 0
moved (Deliver sender recipient round kind) increments p = 0
moved (Send sender recipient round signers) increments p = 0

-- ---- the statement

module _ (plan : Plan) (first : List ℕ) (es : List Entry) where
  -- station p after the first i events
  abbrev pub station_after : ℕ → ℕ → Station
  station_after i p = station_at (after plan first es i) p

  pub record Agreement : Type 0 where
    -- no sound station starts a round before some sound station's clock has shown its mark
    pub shown : (i p k : ℕ) → Sound plan p → 1 ≤ k → k ≤ (station_after i p).round
        → (j : ℕ) × (j < i) × ((w : ℕ) × Shows (after plan first es j) (entry es j).event (entry es j).increments w k)
    -- once one has started it, the run's time never stands later than that moment plus the delivery bound while another sound
    -- station is behind
    pub caught-up : (i p k : ℕ) → Sound plan p → (station_after i p).round < k → k ≤ (station_after (suc i) p).round
        → (j q : ℕ) → Sound plan q → i < j → (station_after j q).round < k
        → (after plan first es j).time ≤ (after plan first es (suc i)).time + plan.bound
    -- two sound stations in one round never read further apart than the agreed spread
    pub together : (i p q : ℕ) → Sound plan p → Sound plan q → (station_after i p).round ≡ (station_after i q).round
        → (station_after i p).reading.0 ≤ (station_after i q).reading.0 + plan.spread
    -- no start sets a sound clock back
    pub forward : (i p : ℕ) → Sound plan p → (station_after i p).round < (station_after (suc i) p).round
        → (station_after i p).reading.0 + moved (entry es i).event (entry es i).increments p ≤ (station_after (suc i) p).reading.0
