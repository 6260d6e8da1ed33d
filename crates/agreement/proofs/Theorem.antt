-- Demand 3 holds of every run of an accepted setup: the course of the run keeps the laws of clocks and of messages, and each
-- sentence is one of their theorems at the states after whole events.
use Rattle.std.specs.Prelude.{ℕ, suc, ◌+◌, ◌*◌, ◌<◌, ◌≤◌, Bool, true, false, List, ◌≡◌, refl, eqb, get_or}
use Rattle.std.proofs.Math.Path.{ap}
use Rattle.std.proofs.Common.{subst, ◌∙◌, eqb-true}
use Rattle.std.proofs.Math.Nat.{le_of_mul-le-mul_left}
use native.Mathlib.Omega.{arith}
use Rattle.clock.specs.Drift.{rate}
use Rattle.clock.specs.Pick.{pick}
use Rattle.setup.specs.declared.Plan.{Plan}
use Rattle.setup.specs.Setup.{setup_answer}
use Rattle.station.specs.declared.Station.{Station}
use Rattle.station.specs.Station.{waits, move}
use Rattle.event.specs.declared.Event.{Event}
use Rattle.event.specs.declared.Event.TheVariants.{Advance, Deliver, Send}
use Rattle.line.specs.Run.{Run, station_at, moves}
use Rattle.line.specs.Event.{effect, event_answer, step}
use Rattle.line.specs.Valid.{Sound}
use Rattle.line.proofs.Allowed.{accepted, advances}
use Rattle.line.proofs.Moves.{moved_at}
use Rattle.line.specs.History.{Entry}
use Rattle.agreement.specs.Statement.{after, entry, Shows, moved, station_after, Agreement}
use Rattle.agreement.specs.ClockLaws.{follows, spread-holds, ceiling}
use Rattle.agreement.specs.Steps.{move_of, middle}
use Rattle.agreement.specs.Course.{after_next, after-plan, Showing, even, odd, course}
use Rattle.agreement.specs.Timing.{at, now, begun, clocks}
use Rattle.agreement.proofs.Signatures.{unforgeable}
use Rattle.agreement.proofs.Broadcasts.{broadcast}

-- in the middle of an event that starts a round the clock has moved by its increment, and nobody has started
middle-moved : (r : Run) (e : Event) (increments : List ℕ) (p : ℕ) → Sound r.plan p → (station_at r p).round < (station_at (step r e increments) p).round
    → ((station_at (middle r e increments) p).round ≡ (station_at r p).round)
    × ((station_at (middle r e increments) p).reading.0 ≡ (station_at r p).reading.0 + moved e increments p)
unfolding middle move_of moved step moves move
middle-moved r e increments p h l = go (eqb (event_answer r e increments) 0) refl l
  where
    kinds : (f : Event) → event_answer r f increments ≡ 0
        → ((station_at (move_of r f increments) p).round ≡ (station_at r p).round)
        × ((station_at (move_of r f increments) p).reading.0 ≡ (station_at r p).reading.0 + moved f increments p)
    kinds (Advance d) z =
        let v = accepted r (Advance d) increments z in
        let a = advances r increments d v.1 in
        let m : station_at (moves d increments r) p ≡ move (get_or increments p 0) (station_at r p) =
        moved_at r.stations increments p (omega (arith, v.0.rules.long, h.line)) (omega (arith, a.long, h.line)) in
        (ap (λ (s : Station). s.round) m, ap (λ (s : Station). s.reading.0) m)
    kinds (Deliver sender recipient round kind) z = (refl, omega arith)
    kinds (Send sender recipient round signers) z = (refl, omega arith)

    go : (b : Bool) → eqb (event_answer r e increments) 0 ≡ b → (station_at r p).round < (station_at (pick b (effect r e increments) r) p).round
        → ((station_at (pick b (move_of r e increments) r) p).round ≡ (station_at r p).round)
        × ((station_at (pick b (move_of r e increments) r) p).reading.0 ≡ (station_at r p).reading.0 + moved e increments p)
    go true z g = kinds e (eqb-true _ _ z)
    go false z g = absurd (omega arith)

module _ (plan : Plan) (first : List ℕ) (es : List Entry) (ok : setup_answer plan first ≡ 0) where
  -- the state after i events
  event-state : (i : ℕ) → (course plan first es ok).state (2 * i) ≡ after plan first es i
  unfolding course
  event-state i = let z : 0 + i ≡ i = omega arith in even plan first es ok 0 i ∙ ap (after plan first es) z

  station-is : (i p : ℕ) → at plan (course plan first es ok) p (2 * i) ≡ station_after plan first es i p
  station-is i p = ap (λ (r : Run). station_at r p) (event-state i)

  time-is : (i : ℕ) → now plan (course plan first es ok) (2 * i) ≡ (after plan first es i).time
  time-is i = ap (λ (r : Run). r.time) (event-state i)

  -- in the middle of the i-th event, and after it
  half-state : (i p : ℕ) → at plan (course plan first es ok) p (suc (2 * i))
      ≡ station_at (middle (after plan first es i) (entry es i).event (entry es i).increments) p
  unfolding course
  half-state i p = ap (λ (r : Run). station_at r p) (odd plan first es ok 0 i ∙ same)
    where
      same : middle (after plan first es (0 + i)) (entry es (0 + i)).event (entry es (0 + i)).increments
          ≡ middle (after plan first es i) (entry es i).event (entry es i).increments
      same =
          let z : 0 + i ≡ i = omega arith in
          ap (λ (j : ℕ). middle (after plan first es j) (entry es j).event (entry es j).increments) z

  whole-state : (i p : ℕ) → at plan (course plan first es ok) p (suc (suc (2 * i))) ≡ station_after plan first es (suc i) p
  whole-state i p = let e : suc (suc (2 * i)) ≡ 2 * suc i = omega arith in rw e (station-is (suc i) p)

  -- first sentence
  has-shown : (i p k : ℕ) → Sound plan p → 1 ≤ k → k ≤ (station_after plan first es i p).round
      → (j : ℕ) × (j < i) × ((w : ℕ) × Shows (after plan first es j) (entry es j).event (entry es j).increments w k)
  unfolding course Showing
  has-shown i p k h one l =
      let s = station-is i p in
      let u = unforgeable plan (course plan first es ok) p h (2 * i) k one (omega (arith, ap (λ (x : Station). x.round) s)) in
      let j = u.2.2.shown in
      (j.0, omega (arith, j.1, u.2.1), (u.0, j.2))

  -- second sentence
  catches-up : (i p k : ℕ) → Sound plan p → k ≤ (station_after plan first es (suc i) p).round
      → (j q : ℕ) → Sound plan q → i < j → (station_after plan first es j q).round < k
      → (after plan first es j).time ≤ (after plan first es (suc i)).time + plan.bound
  catches-up i p k h l j q g b w =
      let s = ap (λ (x : Station). x.round) (station-is (suc i) p) in
      let t = ap (λ (x : Station). x.round) (station-is j q) in
      let c = follows (clocks plan (course plan first es ok)) (broadcast plan (course plan first es ok)) p h (2 * suc i) k (omega arith) q g (2 * j)
      (omega arith) (omega arith) in
      let soon : now plan (course plan first es ok) (2 * j) ≤ now plan (course plan first es ok) (2 * suc i) + plan.bound =
      le_of_mul-le-mul_left {k = rate plan.drift} (omega arith) (omega arith) in
      omega (arith, soon, time-is (suc i), time-is j)

  -- third sentence
  spread-kept : (i p q : ℕ) → Sound plan p → Sound plan q → (station_after plan first es i p).round ≡ (station_after plan first es i q).round
      → (station_after plan first es i p).reading.0 ≤ (station_after plan first es i q).reading.0 + plan.spread
  spread-kept i p q h g e =
      let s = station-is i p in
      let t = station-is i q in
      let c =
      spread-holds (clocks plan (course plan first es ok)) (broadcast plan (course plan first es ok)) p h q g (2 * i)
      (station_after plan first es i p).round (omega (arith, ap (λ (x : Station). x.round) s)) (omega (arith, ap (λ (x : Station). x.round) t, e)) in
      omega (arith, c, ap (λ (x : Station). x.reading.0) s, ap (λ (x : Station). x.reading.0) t)

  -- fourth sentence
  never_back : (i p : ℕ) → Sound plan p → (station_after plan first es i p).round < (station_after plan first es (suc i) p).round
      → (station_after plan first es i p).reading.0 + moved (entry es i).event (entry es i).increments p
      ≤ (station_after plan first es (suc i) p).reading.0
  never_back i p h l =
      let next = after_next plan first es i in
      let plans = after-plan plan first es ok i in
      let m =
      middle-moved (after plan first es i) (entry es i).event (entry es i).increments p (rw plans h)
      (subst (λ r. (station_after plan first es i p).round < (station_at r p).round) next l) in
      let half : at plan (course plan first es ok) p (suc (2 * i))
      ≡ station_at (middle (after plan first es i) (entry es i).event (entry es i).increments) p = half-state i p in
      let whole : at plan (course plan first es ok) p (suc (suc (2 * i))) ≡ station_after plan first es (suc i) p = whole-state i p in
      let r : (at plan (course plan first es ok) p (suc (2 * i))).round ≡ (station_after plan first es i p).round =
      ap (λ (x : Station). x.round) half ∙ m.0 in
      let c : (at plan (course plan first es ok) p (suc (2 * i))).reading.0
      ≡ (station_after plan first es i p).reading.0 + moved (entry es i).event (entry es i).increments p =
      ap (λ (x : Station). x.reading.0) half ∙ m.1 in
      let up : (at plan (course plan first es ok) p (suc (2 * i))).round < (at plan (course plan first es ok) p (suc (suc (2 * i)))).round =
      omega (arith, r, ap (λ (x : Station). x.round) whole) in
      let b = begun plan (course plan first es ok) p h (suc (2 * i)) up in
      let top = ceiling (clocks plan (course plan first es ok)) (broadcast plan (course plan first es ok)) p h (suc (2 * i))
      (waits (at plan (course plan first es ok) p (suc (2 * i)))) (omega arith) refl in
      omega (arith, top, b.2, c, ap (λ (x : Station). x.reading.0) whole)

  -- demand 3
  pub agreement : Agreement plan first es
  agreement = record {
    shown = λ i p k h one l. let x = has-shown i p k h one l in (x.0, omega (arith, x.1), x.2);
    caught-up = λ i p k h before l j q g b w. omega (arith, catches-up i p k h l j q g b w);
    together = λ i p q h g e. omega (arith, spread-kept i p q h g e);
    forward = λ i p h l. omega (arith, never_back i p h l);
  }
