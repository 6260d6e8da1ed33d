-- The three questions of document 01: 10, then 31, then 32; refused, the values are zero.
use Rattle.std.specs.Prelude.{ℕ, Result, Ok, Err, ◌||◌, not, List, ◌≡◌, eqb, ℤ, pos, length}
use Rattle.std.proofs.Common.{ap, ◌∙◌}
use Rattle.std.proofs.Math.Path.{ap₂}
use borrow.Author.Tests.{ne_eqb}
use Rattle.refusal.specs.declared.Refusal.{Refusal}
use Rattle.refusal.specs.Refusal.{number}
use Rattle.clock.specs.declared.Reading.{Reading}
use Rattle.station.specs.declared.Station.{Station}
use Rattle.clock.specs.Pick.{pick, refuse}
use Rattle.clock.specs.Time.{lead_of}
use Rattle.line.specs.declared.Line.{Line}
use Rattle.line.specs.declared.Shown as seen
use Rattle.model.specs.Run.{sound, station_at}
use Rattle.line.specs.Held.{run_of, bad_line}

-- the answers: 0 with the values, or the number that refuses
pub record Shown : Type 0 where
  pub answer : ℕ
  pub reading : Reading
  pub round : ℕ

pub record Led : Type 0 where
  pub answer : ℕ
  pub lead : ℤ

pub record InFlight : Type 0 where
  pub answer : ℕ
  pub count : ℕ

-- refused, the values are zero
abbrev pub as_shown : Result seen.Shown Refusal → Shown
as_shown (Ok x) = record { answer = 0; reading = x.reading; round = x.round }
as_shown (Err r) = record { answer = number r; reading = record { 0 = 0 }; round = 0 }

abbrev pub as_led : Result ℤ Refusal → Led
as_led (Ok x) = record { answer = 0; lead = x }
as_led (Err r) = record { answer = number r; lead = pos 0 }

abbrev pub as_in_flight : Result ℕ Refusal → InFlight
as_in_flight (Ok x) = record { answer = 0; count = x }
as_in_flight (Err r) = record { answer = number r; count = 0 }

-- the reading and round of a station: 31 where it is faulty or at n or above
unfoldable pub show_answer : Line → List ℕ → ℕ → ℕ
show_answer l words i = refuse (bad_line l words) 10 (refuse (not (sound l.plan i)) 31 0)

unfoldable pub shown : Line → List ℕ → ℕ → Shown
shown l words i =
    pick (eqb (show_answer l words i) 0)
    (record { answer = 0; reading = (station_at (run_of l words) i).reading; round = (station_at (run_of l words) i).round })
    (record { answer = show_answer l words i; reading = record { 0 = 0 }; round = 0 })

-- the lead of station a over b: 32 for two stations in different rounds
unfoldable pub lead_answer : Line → List ℕ → ℕ → ℕ → ℕ
lead_answer l words a b =
    refuse (bad_line l words) 10
    (refuse (not (sound l.plan a) || not (sound l.plan b)) 31
    (refuse (not (eqb (station_at (run_of l words) a).round (station_at (run_of l words) b).round)) 32 0))

unfoldable pub led : Line → List ℕ → ℕ → ℕ → Led
led l words a b =
    pick (eqb (lead_answer l words a b) 0)
    (record { answer = 0; lead = lead_of (station_at (run_of l words) a).reading.0 (station_at (run_of l words) b).reading.0 })
    (record { answer = lead_answer l words a b; lead = pos 0 })

-- the number in flight
unfoldable pub in_flight : Line → List ℕ → InFlight
in_flight l words =
    pick (bad_line l words) (record { answer = 10; count = 0 }) (record { answer = 0; count = length (run_of l words).flight })

-- ---- refused, the values are zero; else they are the stations'

module _ (l : Line) (words : List ℕ) (i : ℕ) where
  pub shown-no : (k : ℕ) → show_answer l words i ≡ k → (k ≡ 0 → ⊥)
      → record { answer = k; reading = record { 0 = 0 }; round = 0 } ≡ shown l words i
  unfolding shown
  shown-no k e z = rw (e, ne_eqb k 0 z)

  pub shown-yes : (s : Station) → show_answer l words i ≡ 0 → s ≡ station_at (run_of l words) i
      → record { answer = 0; reading = s.reading; round = s.round } ≡ shown l words i
  unfolding shown
  shown-yes s e f = rw e (ap (λ (x : Station). record { answer = 0; reading = x.reading; round = x.round }) f)

module _ (l : Line) (words : List ℕ) (a b : ℕ) where
  pub led-no : (k : ℕ) → lead_answer l words a b ≡ k → (k ≡ 0 → ⊥) → record { answer = k; lead = pos 0 } ≡ led l words a b
  unfolding led
  led-no k e z = rw (e, ne_eqb k 0 z)

  pub led-yes : (x y : Station) (lead : ℤ) → lead_answer l words a b ≡ 0 → x ≡ station_at (run_of l words) a → y ≡ station_at (run_of l words) b
      → lead ≡ lead_of x.reading.0 y.reading.0 → record { answer = 0; lead = lead } ≡ led l words a b
  unfolding led
  led-yes x y lead e f g h =
      rw e (λ i. record {
        answer = 0;
        lead = (h ∙ ap₂ (λ (s t : Station). lead_of s.reading.0 t.reading.0) f g) i;
      })
