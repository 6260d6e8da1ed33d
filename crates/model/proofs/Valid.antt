-- The record rules of a run as facts. A record that keeps them passes every test of answer 10, and one that passes keeps
-- them; a fresh run does. Within an advance a station may stand at its mark and have its signature still to make: the rules
-- name those stations, and between events there are none.
use Rattle.std.specs.Prelude.{ℕ, zero, suc, ◌+◌, ◌^◌, ◌<◌, ◌≤◌, Bool, ◌||◌, not, List, [], ◌∷◌, ◌≡◌, leb, length, get_or}
use Rattle.std.proofs.Math.Bool.{true, false}
use Rattle.std.proofs.Math.Path.{refl}
use Rattle.std.proofs.Common.{ap, ◌∙◌, pow_pos}
use Rattle.std.proofs.Math.Decide.{dec_lt, dec_le}
use native.Mathlib.Omega.{arith}
use Rattle.std.proofs.Math.Dec.{ltb, eqb}
use borrow.Author.Tests.{ltb-true, ltb-false, eqb-true, eqb-false, not-true, not-false, lt-ltb, le-ltb, le-leb, lt-leb, eq-eqb, ne_eqb}
use Rattle.clock.specs.Limits.{max_time, max_round, max_reading, max_flight}
use Rattle.clock.specs.Pick.{pick}
use Rattle.clock.specs.Tests.{outside, both, neither, inside, not-outside, some_to-each}
use Rattle.mask.specs.Mask.{has, count, below}
use Rattle.mask.proofs.Laws.{count_none}
use Rattle.setup.specs.declared.Plan.{Plan}
use Rattle.setup.specs.Setup.{plan_answer, bad_first, setup_answer}
use Rattle.setup.specs.Laws.{Planned, planned, accepted}
use Rattle.station.specs.declared.Station.{Station}
use Rattle.station.specs.Station.{waits, mark_for}
use Rattle.station.specs.Record.{bad_numbers, bad_signed, bad_gathered, bad_station}
use Rattle.flight.specs.declared.Message.{Message}
use Rattle.flight.specs.Message.{twins}
use Rattle.flight.specs.Members.{no_member, all_map, some-none, none-some}
use Rattle.model.specs.Run.{Run, sound, no_station, station_at, fresh_station, fresh_stations, fresh}
use Rattle.model.specs.Record.{bad_faulty, bad_station_at, some_station, bad_content, bad_way, bad_round, bad_message, bad_record}
use Rattle.model.specs.Valid.{Sound, Ruled, OnItsWay, Valid}

-- ---- from tests to facts and back

-- where no station of the first k has p, each of them lacks it
pub none-station : (p : ℕ → Bool) (k i : ℕ) → some_station p k ≡ false → i < k → p i ≡ false
unfolding some_station
none-station p zero i e h = absurd (omega arith)
none-station p (suc k) i e h =
    let n = neither (some_station p k) (p k) e in
    elim (dec_lt i k) [
      | yes b ↦ none-station p k i n.0 b
      | no b ↦ let s : i ≡ k = omega arith in rw s n.1
    ]

-- where each lacks it, none has it
pub station-none : (p : ℕ → Bool) (k : ℕ) → ((i : ℕ) → i < k → p i ≡ false) → some_station p k ≡ false
unfolding some_station
station-none p zero f = refl
station-none p (suc k) f =
    let a = station-none p k (λ i h. f i (omega arith)) in
    let b = f k (omega arith) in
    rw (a, b) refl

-- a station that passes the test is sound
pub sound-is : (plan : Plan) (i : ℕ) → sound plan i ≡ true → Sound plan i
unfolding sound
sound-is plan i e =
    let b = both (ltb i plan.stations) (not (has plan.faulty i)) e in
    record { line = ltb-true _ _ b.0; unmarked = not-true _ b.1 }

-- and a sound one passes it
pub is-sound : (plan : Plan) (i : ℕ) → Sound plan i → sound plan i ≡ true
unfolding sound
is-sound plan i h =
    let a = lt-ltb i plan.stations h.line in
    let b = h.unmarked in
    rw (a, b) refl

module _ (plan : Plan) (s : Station) where
  -- a sound station's record that breaks no rule keeps each
  pub ruled-is : bad_station plan s ≡ false → Ruled plan s
  unfolding bad_station bad_numbers bad_signed bad_gathered below
  ruled-is e =
      let b = neither (bad_numbers s || bad_signed plan s) (bad_gathered plan s) e in
      let d = neither (bad_numbers s) (bad_signed plan s) b.0 in
      let n = neither (ltb max_round s.round || ltb max_reading s.reading.0) (ltb max_round s.signed) d.0 in
      let m = neither (ltb max_round s.round) (ltb max_reading s.reading.0) n.0 in
      let g = neither (not (below s.gathered plan.stations)) (ltb plan.faults (count s.gathered)) b.1 in
      let t : pick (leb (mark_for plan s) s.reading.0) (eqb s.signed (waits s)) (ltb s.signed (waits s)) ≡ true =
      not-false _ d.1 in
      record {
        round = ltb-false _ _ m.0;
        reading = ltb-false _ _ m.1;
        signed = ltb-false _ _ n.1;
        past = λ h. let l = le-leb (mark_for plan s) s.reading.0 h in eqb-true s.signed (waits s) (rw l at t);
        before = λ h. let l = lt-leb (mark_for plan s) s.reading.0 h in ltb-true s.signed (waits s) (rw l at t);
        gathered = ltb-true _ _ (not-false _ g.0);
        few = ltb-false _ _ g.1;
      }

  -- and one that keeps each breaks none
  pub is-ruled : Ruled plan s → bad_station plan s ≡ false
  unfolding bad_station bad_numbers bad_signed bad_gathered below
  is-ruled h =
      let a = le-ltb max_round s.round h.round in
      let b = le-ltb max_reading s.reading.0 h.reading in
      let c = le-ltb max_round s.signed h.signed in
      let g = lt-ltb s.gathered (2 ^ plan.stations) h.gathered in
      let f = le-ltb plan.faults (count s.gathered) h.few in
      elim (dec_le (mark_for plan s) s.reading.0) [
        | yes p ↦
            let l = le-leb (mark_for plan s) s.reading.0 p in
            let q = eq-eqb s.signed (waits s) (h.past p) in
            rw (a, b, c, l, q, g, f) refl
        | no p ↦
            let u : s.reading.0 < mark_for plan s = omega arith in
            let l = lt-leb (mark_for plan s) s.reading.0 u in
            let q = lt-ltb s.signed (waits s) (h.before u) in
            rw (a, b, c, l, q, g, f) refl
      ]

-- where none of a faulty station's fields is not zero, all are zero
faulty-is : (s : Station) → bad_faulty s ≡ false → s ≡ no_station
unfolding bad_faulty
faulty-is s e =
    let a = neither _ _ e in
    let b = neither _ _ a.0 in
    let c = neither _ _ b.0 in
    let round = eqb-true s.round 0 (not-false _ c.0) in
    let reading = eqb-true s.reading.0 0 (not-false _ c.1) in
    let signed = eqb-true s.signed 0 (not-false _ b.1) in
    let gathered = eqb-true s.gathered 0 (not-false _ a.1) in
    λ i. record { round = round i; reading = record { 0 = reading i }; signed = signed i; gathered = gathered i }

-- and where all are zero, none is not
is-faulty : (s : Station) → s ≡ no_station → bad_faulty s ≡ false
unfolding bad_faulty
is-faulty s e = rw e refl

module _ (r : Run) (m : Message) where
  -- a message in flight that breaks no rule keeps each
  pub way-is : bad_message r m ≡ false → OnItsWay r.plan r.time r.stations m
  unfolding bad_message bad_content bad_way bad_round below
  way-is e =
      let a = neither (bad_content r.plan m || bad_way r m) (bad_round r m) e in
      let b = neither (bad_content r.plan m) (bad_way r m) a.0 in
      let c = neither _ _ b.0 in
      let d = neither _ _ c.0 in
      let f = neither _ _ d.0 in
      let w = neither _ _ b.1 in
      let x = neither _ _ w.0 in
      let y = neither _ _ x.0 in
      let l : m.round ≤ pick (eqb m.kind 0) (station_at r m.sender).signed (station_at r m.sender).round =
      ltb-false _ _ a.1 in
      record {
        round = inside 1 max_round m.round f.0;
        kind = ltb-false _ _ f.1;
        signed = eqb-false _ _ d.1;
        signers = ltb-true _ _ (not-false _ c.1);
        sender = sound-is _ _ (not-false _ y.0);
        recipient = sound-is _ _ (not-false _ y.1);
        apart = eqb-false _ _ x.1;
        sent = ltb-false _ _ w.1;
        ready = λ h. let q = eq-eqb m.kind 0 h in rw q at l;
        relay = λ h. let q = ne_eqb m.kind 0 h in rw q at l;
      }

  -- and one that keeps each breaks none
  pub is-way : OnItsWay r.plan r.time r.stations m → bad_message r m ≡ false
  unfolding bad_message bad_content bad_way bad_round below
  is-way h =
      let a : outside 1 max_round m.round ≡ false = not-outside 1 max_round m.round h.round.0 h.round.1 in
      let b = le-ltb 1 m.kind h.kind in
      let c = ne_eqb m.signers 0 h.signed in
      let d = lt-ltb m.signers (2 ^ r.plan.stations) h.signers in
      let s = is-sound r.plan m.sender h.sender in
      let t = is-sound r.plan m.recipient h.recipient in
      let u = ne_eqb m.sender m.recipient h.apart in
      let v = le-ltb r.time m.sent.0 h.sent in
      let w : bad_round r m ≡ false = rounds (eqb m.kind 0) refl in
      rw (a, b, c, d, s, t, u, v, w) refl
    where
      rounds : (b : Bool) → eqb m.kind 0 ≡ b
          → ltb (pick b (station_at r m.sender).signed (station_at r m.sender).round) m.round ≡ false
      rounds true e = le-ltb _ m.round (h.ready (eqb-true _ _ e))
      rounds false e = le-ltb _ m.round (h.relay (eqb-false _ _ e))

-- a record that answer 10 does not refuse is valid
pub valid-is : (r : Run) → bad_record r ≡ false → Valid r
unfolding bad_record bad_station_at
valid-is r e =
    let a = neither _ _ e in
    let b = neither _ _ a.0 in
    let c = neither _ _ b.0 in
    let d = neither _ _ c.0 in
    let f = neither _ _ d.0 in
    let g = neither _ _ f.0 in
    let ok : plan_answer r.plan ≡ 0 = eqb-true _ _ (not-false _ g.0) in
    let each : (i : ℕ) → i < r.plan.stations → bad_station_at r i ≡ false =
    λ i h. none-station (bad_station_at r) r.plan.stations i d.1 h in
    record {
      rules = record {
        answer = ok;
        plan = planned r.plan ok;
        long = eqb-true _ _ (not-false _ g.1);
        time = ltb-false _ _ f.1;
        stations = λ i h. let u = h.unmarked in let t = each i h.line in ruled-is r.plan (station_at r i) (rw u at t);
        faulty = λ i h u. let t = each i h in faulty-is (station_at r i) (rw u at t);
        flight = all_map (way-is r) (none-some (bad_message r) r.flight b.1);
        single = a.1;
      };
      few = ltb-false _ _ c.1;
    }

-- and a valid one is not refused
pub is-valid : (r : Run) → Valid r → bad_record r ≡ false
unfolding bad_record bad_station_at
is-valid r v =
    let a = eq-eqb (plan_answer r.plan) 0 v.rules.answer in
    let b = eq-eqb (length r.stations) r.plan.stations v.rules.long in
    let c = le-ltb max_time r.time v.rules.time in
    let d = station-none (bad_station_at r) r.plan.stations (λ i h. each i h (has r.plan.faulty i) refl) in
    let f = le-ltb max_flight (length r.flight) v.few in
    let g = some-none (bad_message r) (all_map (is-way r) v.rules.flight) in
    let t = v.rules.single in
    rw (a, b, c, d, f, g, t) refl
  where
    each : (i : ℕ) → i < r.plan.stations → (b : Bool) → has r.plan.faulty i ≡ b
        → pick b (bad_faulty (station_at r i)) (bad_station r.plan (station_at r i)) ≡ false
    each i h true e = is-faulty (station_at r i) (v.rules.faulty i h e)
    each i h false e = is-ruled r.plan (station_at r i) (v.rules.stations i (record { line = h; unmarked = e }))

-- ---- a fresh run

-- each station as its first reading makes it
pub fresh_at : (first : List ℕ) (i : ℕ) → get_or (fresh_stations first) i no_station ≡ fresh_station (get_or first i 0)
unfolding fresh_stations
fresh_at [] i = refl
fresh_at (x ∷ first) zero = refl
fresh_at (x ∷ first) (suc i) = fresh_at first i

-- as many as there are first readings
pub fresh-length : (first : List ℕ) → length (fresh_stations first) ≡ length first
unfolding fresh_stations
fresh-length [] = refl
fresh-length (x ∷ first) = ap suc (fresh-length first)

-- a first reading from A to A + T is below the mark of round 1, by the gap rule
pub fresh-ruled : (plan : Plan) (x : ℕ) → Planned plan → x ≤ plan.step + plan.bound → Ruled plan (fresh_station x)
fresh-ruled plan x p h =
    let low : x < plan.period = omega (arith, p.gap.0, p.gap.1) in
    record {
      round = omega arith;
      reading = omega (arith, p.limits.period.1);
      signed = omega arith;
      past = λ l. absurd (omega arith);
      before = λ l. omega arith;
      gathered = pow_pos plan.stations;
      few = omega (arith, count_none);
    }

-- a fresh run of an accepted setup is valid
pub fresh-valid : (plan : Plan) (first : List ℕ) → setup_answer plan first ≡ 0 → bad_record (fresh plan first) ≡ false
unfolding fresh bad_first twins
fresh-valid plan first e =
    let a = accepted plan first e in
    let p = planned plan a.0 in
    let each : (i : ℕ) → i < plan.stations → bad_first plan i (get_or first i 0) ≡ false =
    λ i h. some_to-each (bad_first plan) first plan.stations i a.2 h in
    is-valid (fresh plan first)
    (record {
      rules = record {
        answer = a.0;
        plan = p;
        long = fresh-length first ∙ a.1;
        time = omega arith;
        stations = λ i h.
            let u = h.unmarked in
            let t = each i h.line in
            let b = inside plan.step (plan.step + plan.bound) (get_or first i 0) (rw u at t) in
            rw (fresh_at first i) (fresh-ruled plan (get_or first i 0) p b.1);
        faulty = λ i h u.
            let t = each i h in
            let z = eqb-true (get_or first i 0) 0 (not-false _ (rw u at t)) in
            fresh_at first i ∙ ap fresh_station z;
        flight = no_member;
        single = refl;
      };
      few = omega arith;
    })
