-- A valid record as the code holds it, and the limits within which none of its numbers wraps: each is read off the record rules.
use Rattle.std.specs.Prelude.{ℕ, ◌*◌, ◌<◌, ◌≤◌, Bool, ◌||◌, List, [], ◌≡◌, refl, ltb, get_or}
use Rattle.std.proofs.Math.Bool.{true, false, not}
use native.Mathlib.Omega.{arith}
use Rattle.std.proofs.Math.Dec.{eqb}
use Rattle.std.proofs.Math.ListN.{length}
use borrow.Author.Tests.{eqb-true, not-false}
use Rattle.clock.specs.Limits.{max_stations, max_time, max_round, max_reading, max_flight, max_advance, max_increment}
use Rattle.clock.specs.Tests.{outside, some_to, neither, inside, some_to-each}
use Rattle.mask.specs.Mask.{has, below}
use Rattle.setup.specs.Laws.{Planned}
use Rattle.station.specs.Limits.{Small, Steady}
use Rattle.station.specs.declared.Station.{Station}
use Rattle.flight.proofs.Coding.{length-decode}
use Rattle.event.specs.declared.Event.{Event}
use Rattle.event.specs.declared.Event.TheVariants.{Advance, Deliver, Send}
use Rattle.event.specs.Event.{bad_increment, bad_advance, bad_ends, barred}
use Rattle.line.specs.declared.Line.{Line}
use Rattle.line.specs.Run.{no_station, station_at}
use Rattle.line.specs.Record.{bad_record}
use Rattle.line.specs.Held.{run_of, bad_line}
use Rattle.line.specs.HeldLaws.{place-some}
use Rattle.line.specs.Valid.{Valid}
use Rattle.line.proofs.Valid.{valid-is}
use Rattle.line.proofs.Allowed.{increment-is, ends_is}

-- a valid record: its run keeps the record rules, its table has n stations and its words are for 1,024 messages
pub record Held (l : Line) (words : List ℕ) : Type 0 where
  pub valid : Valid (run_of l words)
  pub long : l.length ≡ l.plan.stations
  pub room : length words ≡ 3 * max_flight

-- the limits of its plan, time and stations
pub record Settled (l : Line) : Type 0 where
  pub few : l.plan.stations ≤ max_stations
  pub plan : Planned l.plan
  pub time : l.time.0 ≤ max_time
  pub small : (i : ℕ) → i < l.plan.stations → Small l.plan (station_at (run_of l []) i)
  pub reading : (i : ℕ) → i < l.plan.stations → (station_at (run_of l []) i).reading.0 ≤ max_reading

-- an advance that 11 does not bar is within them too
pub record Going (l : Line) (d : ℕ) (increments : List ℕ) : Type 0 where
  pub settled : Settled l
  pub span : d ≤ max_advance
  pub long : length increments ≡ l.plan.stations
  pub most : (i : ℕ) → i < l.plan.stations → get_or increments i 0 ≤ max_increment

-- a record that 10 does not refuse is valid
pub held-is : (l : Line) (words : List ℕ) → bad_line l words ≡ false → Held l words
unfolding bad_line
held-is l words e =
    let a = neither (not (eqb l.length l.plan.stations) || not (eqb (length words) (3 * max_flight))) (bad_record (run_of l words)) e in
    let b = neither (not (eqb l.length l.plan.stations)) (not (eqb (length words) (3 * max_flight))) a.0 in
    record { valid = valid-is (run_of l words) a.1; long = eqb-true _ _ (not-false _ b.0); room = eqb-true _ _ (not-false _ b.1) }

module _ {l : Line} {words : List ℕ} (h : Held l words) where
  -- at most 1,024 messages are in flight
  pub held-count : l.count ≤ max_flight
  unfolding run_of
  held-count = omega (arith, h.valid.few, length-decode l.count words)

  -- a station's numbers
  held-station : (i : ℕ) → i < l.plan.stations → (b : Bool) → has l.plan.faulty i ≡ b
      → ((station_at (run_of l []) i).round ≤ max_round) × ((station_at (run_of l []) i).reading.0 ≤ max_reading)
  unfolding run_of
  held-station i k true e =
      let s : station_at (run_of l []) i ≡ no_station = h.valid.rules.faulty i k e in
      rw s (omega arith, omega arith)
  held-station i k false e =
      let s = h.valid.rules.stations i (record { line = k; unmarked = e }) in
      (s.round, s.reading)

  -- it is within the limits
  pub held-settled : Settled l
  unfolding run_of
  held-settled =
      let p : Planned l.plan = h.valid.rules.plan in
      record {
        few = p.stations.1;
        plan = p;
        time = h.valid.rules.time;
        small = λ i k. record { round = (held-station i k _ refl).0; period = p.limits.period.1; step = p.limits.step.1 };
        reading = λ i k. (held-station i k _ refl).1;
      }

  -- and so is an advance that 11 does not bar
  pub held-going : (d : ℕ) (increments : List ℕ) → bad_advance l.plan.stations l.plan.faulty d increments ≡ false → Going l d increments
  unfolding bad_advance
  held-going d increments e =
      let a =
      neither (outside 1 max_advance d || not (eqb (length increments) l.plan.stations))
      (some_to (bad_increment l.plan.faulty) increments (length increments)) e in
      let b = neither (outside 1 max_advance d) (not (eqb (length increments) l.plan.stations)) a.0 in
      let long : length increments ≡ l.plan.stations = eqb-true _ _ (not-false _ b.1) in
      record {
        settled = held-settled;
        span = (inside 1 max_advance d b.0).1;
        long = long;
        most = λ i k. (increment-is _ _ _
            (some_to-each (bad_increment l.plan.faulty) increments (length increments) i a.1 (omega (arith, long)))).0;
      }

-- the same of an event that is known to be an advance, and the recipient of one that is known to be a message
module _ {l : Line} {words : List ℕ} (h : Held l words) (e : Event) (increments : List ℕ)
    (b : barred l.plan.stations l.plan.faulty e increments ≡ false) where
  pub advance-going : (d : ℕ) → e ≡ Advance d → Going l d increments
  unfolding barred
  advance-going d q = held-going h d increments (rw q at b)

  pub deliver-recipient : (sender recipient round kind : ℕ) → e ≡ Deliver sender recipient round kind → recipient < l.plan.stations
  unfolding barred
  deliver-recipient sender recipient round kind q =
      let t = rw q at b in
      let n = neither (bad_ends l.plan.stations l.plan.faulty sender recipient round) (ltb 1 kind) t in
      (ends_is l.plan sender recipient round n.0).to.line

  pub send-recipient : (sender recipient round signers : ℕ) → e ≡ Send sender recipient round signers → recipient < l.plan.stations
  unfolding barred
  send-recipient sender recipient round signers q =
      let t = rw q at b in
      let m = neither (bad_ends l.plan.stations l.plan.faulty sender recipient round || eqb signers 0) (not (below signers l.plan.stations)) t in
      let n = neither (bad_ends l.plan.stations l.plan.faulty sender recipient round) (eqb signers 0) m.0 in
      (ends_is l.plan sender recipient round n.0).to.line

-- the station that the code reads off the table is the run's
pub table-station : (l : Line) (i : ℕ) → i < l.plan.stations → get_or l.stations i no_station ≡ station_at (run_of l []) i
unfolding run_of
table-station l i k = place-some l.plan.stations l.stations i k

pub station-small : {l : Line} → Settled l → (i : ℕ) {s : Station} → i < l.plan.stations → s ≡ station_at (run_of l []) i → s.round ≤ max_round
station-small h i k e = rw e (h.small i k).round

-- a station and its increment
pub going-steady : {l : Line} {d : ℕ} {increments : List ℕ} → Going l d increments → (i : ℕ) → i < l.plan.stations
    → Steady l.plan (get_or increments i 0) (station_at (run_of l []) i)
going-steady g i k = record { limits = g.settled.small i k; reading = g.settled.reading i k; increment = g.most i k }
