-- A fresh run as the code makes it from a setup: 1 to 8, or a run whose model is document 01's fresh run.
use Rattle.std.specs.Prelude.{ℕ, Result, Ok, Err, zero, suc, ◌≤◌, ◌<◌, List, [], ◌≡◌, refl, eqb, length, get_or, set, replicate}
use Rattle.std.proofs.Common.{sym, ◌∙◌, arith, length-set, get_or-set_same, get_or-set_other, ext_get_or}
use Rattle.std.proofs.Math.Decide.{dec_lt}
use borrow.Author.Tests.{eq-eqb, ne_eqb}
use Rattle.clock.specs.Pick.{pick}
use Rattle.refusal.specs.declared.Refusal.{Refusal}
use Rattle.refusal.specs.Refusal.{number}
use Rattle.setup.specs.declared.Plan.{Plan}
use Rattle.setup.specs.Setup.{setup_answer}
use Rattle.setup.specs.Laws.{planned, accepted}
use Rattle.station.specs.declared.Station.{Station}
use Rattle.flight.specs.Message.{decode}
use Rattle.line.specs.declared.Line.{Line}
use Rattle.model.specs.Run.{no_station, fresh_station, fresh_stations, fresh}
use Rattle.model.proofs.Valid.{fresh_at, fresh-length}
use Rattle.line.specs.Held.{first_of, run_of}
use Rattle.line.specs.HeldLaws.{first-length, place-some}

-- twelve places with nothing in them
abbrev pub no_stations : List Station
no_stations = replicate 12 no_station

-- the table with the first k stations in their places
unfoldable pub seated_to : List ℕ → ℕ → List Station
seated_to first zero = no_stations
seated_to first (suc k) = set (seated_to first k) k (fresh_station (get_or first k 0))

-- a run of so many stations at its beginning
abbrev pub line_for : Plan → ℕ → List Station → Line
line_for plan n table = record { plan = plan; time = record { 0 = 0 }; length = n; stations = table; count = 0 }

-- nothing planned
abbrev pub no_plan : Plan
no_plan = record { stations = 0; faults = 0; drift = 0; bound = 0; spread = 0; step = 0; period = 0; faulty = 0 }

-- the answer to a setup: 0 with the run at its beginning, or 1 to 8 and no run
pub record Begun : Type 0 where
  pub answer : ℕ
  pub line : Line

abbrev pub as_begun : Result Line Refusal → Begun
as_begun (Ok l) = record { answer = 0; line = l }
as_begun (Err r) = record { answer = number r; line = line_for no_plan 0 no_stations }

-- a refused setup yields no run
unfoldable pub begun : Plan → List ℕ → Begun
begun plan first =
    pick (eqb (setup_answer plan first) 0)
    (record { answer = 0; line = line_for plan plan.stations (seated_to first plan.stations) })
    (record { answer = setup_answer plan first; line = line_for no_plan 0 no_stations })

pub seated-length : (first : List ℕ) (k : ℕ) → length (seated_to first k) ≡ 12
unfolding seated_to
seated-length first zero = refl
seated-length first (suc k) = length-set (seated_to first k) k (fresh_station (get_or first k 0)) ∙ seated-length first k

-- each station is in its place
seated-at : (first : List ℕ) (k i : ℕ) → k ≤ 12 → i < k → get_or (seated_to first k) i no_station ≡ fresh_station (get_or first i 0)
unfolding seated_to
seated-at first zero i m h = absurd (omega arith)
seated-at first (suc k) i m h = elim (dec_lt i k) [
  | yes b ↦
      get_or-set_other (seated_to first k) k i (fresh_station (get_or first k 0)) no_station (λ e. omega arith)
      ∙ seated-at first k i (omega arith) b
  | no b ↦
      let s : i ≡ k = omega arith in
      rw s (get_or-set_same (seated_to first k) k (fresh_station (get_or first k 0)) no_station (omega (arith, seated-length first k)))
]

-- the run that is made of an accepted setup is the fresh run, whatever the words hold
pub fresh-run : (plan : Plan) (first words : List ℕ) → setup_answer plan first ≡ 0
    → run_of (line_for plan plan.stations (seated_to first plan.stations)) words ≡ fresh plan first
unfolding run_of fresh decode
fresh-run plan first words e =
    let a = accepted plan first e in
    let most : plan.stations ≤ 12 = (planned plan a.0).stations.1 in
    let n : ℕ = plan.stations in
    let same : first_of n (seated_to first n) ≡ fresh_stations first =
    ext_get_or no_station (first_of n (seated_to first n)) (fresh_stations first)
    (first-length n (seated_to first n) ∙ sym a.1 ∙ sym (fresh-length first))
    (λ i h.
    let b : i < n = omega (arith, first-length n (seated_to first n)) in
    sym (place-some n (seated_to first n) i b) ∙ seated-at first n i most b ∙ sym (fresh_at first i))
    in
    λ i. record { plan = plan; time = 0; stations = same i; flight = [] }

module _ (plan : Plan) (first : List ℕ) (answer : ℕ) (e : answer ≡ setup_answer plan first) where
  -- refused
  pub begun-no : (s : Station) → (answer ≡ 0 → ⊥) → s ≡ no_station
      → record { answer = answer; line = line_for no_plan 0 (replicate 12 s) } ≡ begun plan first
  unfolding begun
  begun-no s z f = rw (← e, ne_eqb answer 0 z, f)

  module _ (z : answer ≡ 0) where
    -- accepted, it has at most twelve first readings
    pub begun-few : length first ≤ 12
    begun-few = let a = accepted plan first (sym e ∙ z) in omega (arith, a.1, (planned plan a.0).stations.1)

    -- and the stations are in their places
    pub begun-yes : (table : List Station) → table ≡ seated_to first (length first)
        → record { answer = 0; line = line_for plan plan.stations table } ≡ begun plan first
    unfolding begun
    begun-yes table f =
        let a = accepted plan first (sym e ∙ z) in
        rw (← e, eq-eqb answer 0 z, ← a.1, f)
