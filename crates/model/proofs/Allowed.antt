-- What the answer 0 to an event says: each of the rules 10 to 19 by name, as a fact. Each table of refusals is taken apart
-- once, here, and no later proof looks at a test.
use Rattle.std.specs.Prelude.{ℕ, suc, ◌+◌, ◌<◌, ◌≤◌, Bool, true, ◌&&◌, ◌||◌, List, ◌≡◌, refl, leb, get_or}
use Rattle.std.proofs.Math.Bool.{false, not}
use Rattle.std.proofs.Common.{sym, ◌∙◌, arith}
use Rattle.std.proofs.Math.Decide.{dec_lt}
use Rattle.std.proofs.Math.Dec.{ltb, eqb}
use Rattle.std.proofs.Math.ListN.{length}
use borrow.Author.Tests.{ltb-true, ltb-false, leb-false, eqb-true, eqb-false, not-false, lt-ltb, eq-eqb}
use Rattle.clock.specs.Limits.{max_time, max_round, max_reading, max_advance, max_increment}
use Rattle.clock.specs.Pick.{refuse-none}
use Rattle.clock.specs.Tests.{outside, some_to, neither, inside, some_to-each}
use Rattle.mask.specs.Mask.{has, below}
use Rattle.setup.specs.declared.Plan.{Plan}
use Rattle.station.specs.declared.Station.{Station}
use Rattle.station.specs.Station.{waits, mark_for, passes}
use Rattle.station.specs.Record.{exceeds}
use Rattle.flight.specs.Message.{index_of}
use Rattle.flight.specs.Members.{none-overdue, index_of-most}
use Rattle.event.specs.declared.Event.{Event}
use Rattle.event.specs.declared.Event.TheVariants.{Advance, Deliver, Send}
use Rattle.event.specs.Event.{bad_increment, bad_advance, bad_ends, barred}
use Rattle.model.specs.Run.{Run, sound, station_at}
use Rattle.model.specs.Record.{some_station, bad_record}
use Rattle.model.specs.Event.{names_of, effect, exceeds_at, drifts_at, passes_at, unsigned_at, unsigned, full, step_answer, event_answer}
use Rattle.model.proofs.Order.{twelve, thirteen, fourteen, fifteen, advance-last, sixteen, deliver-last, seventeen, eighteen, send-last}
use Rattle.model.specs.Valid.{Valid}
use Rattle.model.proofs.Valid.{valid-is, none-station, is-sound}
use Rattle.model.specs.Allowed.{Advances, Ends, Delivers, FaultySends}

-- where a test fails and its first part holds, its second part fails
pub second-fails : (a b : Bool) → (a && b) ≡ false → a ≡ true → b ≡ false
second-fails true b e t = e
second-fails false b e t = let z : ◌≡◌ {A = ℕ} 0 1 = cc in absurd (omega arith)

-- a test that would give a number is not met by an event that is answered 0
unmet : (test : Bool) (number : ℕ) {answer : ℕ} → (test ≡ true → answer ≡ suc number) → answer ≡ 0 → test ≡ false
unmet true number given z = absurd (omega (arith, given refl))
unmet false number given z = refl

-- ---- the tables taken apart

-- an event that is answered 0 met a valid record, and none of the rules 11 to 19 refuses it
pub accepted : (r : Run) (e : Event) (increments : List ℕ) → event_answer r e increments ≡ 0
    → Valid r × (step_answer r e increments ≡ 0)
unfolding event_answer
accepted r e increments h = let ten = refuse-none (bad_record r) 9 (step_answer r e increments) h in (valid-is r ten.0, ten.1)

-- an increment that 11 does not bar
pub increment-is : (faulty i x : ℕ) → bad_increment faulty i x ≡ false → (x ≤ max_increment) × (has faulty i ≡ true → x ≡ 0)
unfolding bad_increment
increment-is faulty i x e =
    let a = neither (ltb max_increment x) (has faulty i && not (eqb x 0)) e in
    (ltb-false max_increment x a.0, λ u. eqb-true x 0 (not-false _ (second-fails (has faulty i) _ a.1 u)))

-- an increment that 12 does not refuse
pub within-is : (plan : Plan) (by : ℕ) (s : Station) → exceeds plan by s ≡ false
    → (s.reading.0 + by ≤ max_reading) × (s.round ≡ max_round → s.reading.0 + by < mark_for plan s)
unfolding exceeds
within-is plan by s e =
    let a = neither (ltb max_reading (s.reading.0 + by)) (eqb s.round max_round && leb (mark_for plan s) (s.reading.0 + by)) e in
    (ltb-false max_reading _ a.0, λ u. leb-false (mark_for plan s) _ (second-fails (eqb s.round max_round) _ a.1 (eq-eqb _ _ u)))

-- ends and a round that 11 does not bar
pub ends_is : (plan : Plan) (sender recipient round : ℕ) → bad_ends plan.stations plan.faulty sender recipient round ≡ false
    → Ends plan sender recipient round
unfolding bad_ends
ends_is plan sender recipient round e =
    let a = neither _ _ e in
    let b = neither _ _ a.0 in
    let c = neither _ _ b.0 in
    let d = neither _ _ c.0 in
    record {
      from = leb-false _ _ d.0;
      to = record { line = leb-false _ _ d.1; unmarked = b.1 };
      apart = eqb-false _ _ c.1;
      rounds = inside 1 max_round round a.1;
    }

module _ (r : Run) (increments : List ℕ) where
  -- an advance that is answered 0
  pub advances : (d : ℕ) → step_answer r (Advance d) increments ≡ 0 → Advances r d increments
  unfolding step_answer barred bad_advance exceeds_at drifts_at passes_at passes full
  advances d e =
      let eleven = refuse-none (bad_advance r.plan.stations r.plan.faulty d increments) 10 _ e in
      let not12 = unmet _ 11 (twelve r d increments) eleven.1 in
      let not13 = unmet _ 12 (thirteen r d increments not12) eleven.1 in
      let not14 = unmet _ 13 (fourteen r d increments not12 not13) eleven.1 in
      let not15 = unmet _ 14 (fifteen r d increments not12 not13 not14) eleven.1 in
      let nineteen =
      refuse-none (full (effect r (Advance d) increments)) 18 0
      (sym (advance-last r d increments not12 not13 not14 not15) ∙ eleven.1) in
      let a =
      neither (outside 1 max_advance d || not (eqb (length increments) r.plan.stations))
      (some_to (bad_increment r.plan.faulty) increments (length increments)) eleven.0 in
      let b = neither (outside 1 max_advance d) (not (eqb (length increments) r.plan.stations)) a.0 in
      let long : length increments ≡ r.plan.stations = eqb-true _ _ (not-false _ b.1) in
      let t = neither (ltb max_time (r.time + d)) (some_station (exceeds_at r increments) r.plan.stations) not12 in
      let allowed : (i : ℕ) → i < r.plan.stations → bad_increment r.plan.faulty i (get_or increments i 0) ≡ false =
      λ i h. some_to-each (bad_increment r.plan.faulty) increments (length increments) i a.1 (omega (arith, long)) in
      let within : (i : ℕ) → i < r.plan.stations → exceeds r.plan (get_or increments i 0) (station_at r i) ≡ false =
      λ i h. none-station (exceeds_at r increments) r.plan.stations i t.1 h in
      record {
        span = inside 1 max_advance d b.0;
        long = long;
        most = λ i h. (increment-is _ _ _ (allowed i h)).0;
        faulty = λ i h. (increment-is _ _ _ (allowed i h)).1;
        time = ltb-false _ _ t.0;
        reading = λ i h. (within-is r.plan (get_or increments i 0) (station_at r i) (within i h)).0;
        last = λ i h. (within-is r.plan (get_or increments i 0) (station_at r i) (within i h)).1;
        drift = λ i h. not-false _
            (second-fails _ _ (none-station (drifts_at r d increments) r.plan.stations i not13 h.line) (is-sound r.plan i h));
        mark = λ i h l. ltb-false _ _
            (second-fails _ _ (none-station (passes_at r increments) r.plan.stations i not14 h) (lt-ltb _ _ l));
        wait = none-overdue (r.time + d) r.plan.bound r.flight not15;
        room = ltb-false _ _ nineteen.0;
      }

  -- a delivery that is answered 0
  pub delivers : (sender recipient round kind : ℕ) → step_answer r (Deliver sender recipient round kind) increments ≡ 0
      → Delivers r sender recipient round kind increments
  unfolding step_answer barred full
  delivers sender recipient round kind e =
      let eleven = refuse-none (bad_ends r.plan.stations r.plan.faulty sender recipient round || ltb 1 kind) 10 _ e in
      let not16 = unmet _ 15 (sixteen r sender recipient round kind increments) eleven.1 in
      let nineteen =
      refuse-none (full (effect r (Deliver sender recipient round kind) increments)) 18 0
      (sym (deliver-last r sender recipient round kind increments not16) ∙ eleven.1) in
      let a = neither (bad_ends r.plan.stations r.plan.faulty sender recipient round) (ltb 1 kind) eleven.0 in
      let most = index_of-most (names_of sender recipient round kind) r.flight in
      record {
        ends = ends_is r.plan sender recipient round a.0;
        kinds = ltb-false _ _ a.1;
        found = elim (dec_lt (index_of (names_of sender recipient round kind) r.flight) (length r.flight)) [
          | yes h ↦ h
          | no h ↦ absurd (eqb-false (index_of (names_of sender recipient round kind) r.flight) (length r.flight) not16 (omega arith))
        ];
        room = ltb-false _ _ nineteen.0;
      }

  -- a faulty send that is answered 0
  pub faulty-sends : (sender recipient round signers : ℕ) → step_answer r (Send sender recipient round signers) increments ≡ 0
      → FaultySends r sender recipient round signers increments
  unfolding step_answer barred full below unsigned unsigned_at
  faulty-sends sender recipient round signers e =
      let eleven =
      refuse-none
      (bad_ends r.plan.stations r.plan.faulty sender recipient round || eqb signers 0 || not (below signers r.plan.stations))
      10 _ e in
      let not17 = unmet _ 16 (seventeen r sender recipient round signers increments) eleven.1 in
      let not18 = unmet _ 17 (eighteen r sender recipient round signers increments not17) eleven.1 in
      let nineteen =
      refuse-none (full (effect r (Send sender recipient round signers) increments)) 18 0
      (sym (send-last r sender recipient round signers increments not17 not18) ∙ eleven.1) in
      let a = neither _ _ eleven.0 in
      let b = neither (bad_ends r.plan.stations r.plan.faulty sender recipient round) (eqb signers 0) a.0 in
      record {
        ends = ends_is r.plan sender recipient round b.0;
        nonempty = eqb-false _ _ b.1;
        below = ltb-true _ _ (not-false _ a.1);
        faulty = not-false _ not17;
        signed = λ w i h u. eqb-true _ _
            (not-false _
            (second-fails (sound r.plan i) _
            (second-fails (has signers i) _
            (none-station (unsigned_at r round signers) r.plan.stations i
            (second-fails (eqb round (waits (station_at r recipient))) _ not18 (eq-eqb _ _ w)) h.line)
            u)
            (is-sound r.plan i h)));
        room = ltb-false _ _ nineteen.0;
      }
