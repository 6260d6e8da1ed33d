-- How each rule of a station is met case by case, as the code comes to it.
use Rattle.std.specs.Prelude.{ℕ, ◌+◌, ◌<◌, ◌≤◌, Bool, ◌||◌, ◌≡◌, eqb}
use Rattle.std.proofs.Math.Bool.{true, false, not}
use Rattle.std.proofs.Math.Path.{ap}
use Rattle.std.proofs.Common.{sym, ◌∙◌, arith}
use Rattle.std.proofs.Math.Decide.{dec_le}
use Rattle.std.proofs.Math.Dec.{ltb, leb}
use borrow.Author.Tests.{lt-ltb, le-ltb, lt-leb, le-leb, eq-eqb, ne_eqb, ltb-false, eqb-true, not-false}
use Rattle.clock.specs.Limits.{max_round, max_reading, max_period, max_step}
use Rattle.clock.specs.Tests.{neither}
use Rattle.clock.specs.Time.{later}
use Rattle.clock.specs.declared.Reading.{Reading}
use Rattle.mask.specs.Mask.{count, join, only}
use Rattle.setup.specs.declared.Plan.{Plan}
use Rattle.setup.specs.Setup.{plan_answer}
use Rattle.setup.specs.Laws.{planned}
use Rattle.station.specs.declared.Station.{Station}
use Rattle.station.specs.declared.Outcome.{Outcome}
use Rattle.station.specs.Station.{waits, mark_for, still, complete, start, settle, gather, hear, sign, move, lands, advance}
use Rattle.station.specs.Limits.{Small, mark-most, Steady}
use Rattle.station.specs.Record.{bad_numbers, bad_signed, bad_gathered, bad_station, past_limits, bad_board, answered}

-- an accepted plan is within its limits
pub plan-limits : (plan : Plan) → plan_answer plan ≡ 0 → past_limits plan ≡ false
unfolding past_limits
plan-limits plan e =
    let p = planned plan e in
    simp (le-ltb max_period plan.period p.limits.period.1, le-ltb max_step plan.step p.limits.step.1)

module _ (plan : Plan) (s : Station) where
  -- a start's reading is exact
  pub start_is : Small plan s → (mark : ℕ) (reading : Reading) → mark ≡ mark_for plan s → reading.0 ≡ later mark plan.step
      → record { round = waits s; reading = reading; signed = s.signed; gathered = 0 } ≡ start plan s
  unfolding start
  start_is h mark reading m e =
      let exact : reading.0 ≡ mark_for plan s + plan.step = e ∙ omega (arith, m, mark-most plan s h, h.step) in
      λ i. record { round = waits s; reading = record { 0 = exact i }; signed = s.signed; gathered = 0 }

  module _ (ready : Bool) (held : ℕ) (c : held ≡ count s.gathered) where
    pub settle-starts : plan.faults < held → (next : Station) → next ≡ start plan s
        → record { station = next; ready = ready; relay = s.gathered } ≡ settle ready plan s
    unfolding settle complete
    settle-starts h next e =
        let holds : complete plan s ≡ true = lt-ltb plan.faults (count s.gathered) (omega arith) in
        rw (holds, e)

    pub settle-waits : held ≤ plan.faults → record { station = s; ready = ready; relay = 0 } ≡ settle ready plan s
    unfolding settle complete
    settle-waits h = let lacks : complete plan s ≡ false = le-ltb plan.faults (count s.gathered) (omega arith) in rw lacks

  pub hear-other : (round signers : ℕ) (o : Outcome) → (round ≡ waits s → ⊥) → o ≡ still s → o ≡ hear plan round signers s
  unfolding hear
  hear-other round signers o h e = rw (ne_eqb round (waits s) h) e

  pub hear-own : (round signers : ℕ) (o : Outcome) (held : ℕ) → round ≡ waits s → held ≡ join s.gathered signers
      → o ≡ settle false plan (record { round = s.round; reading = s.reading; signed = s.signed; gathered = held })
      → o ≡ hear plan round signers s
  unfolding hear gather
  hear-own round signers o held h e f =
      rw (eq-eqb round (waits s) h)
      (f ∙ ap (λ (g : ℕ). settle false plan (record { round = s.round; reading = s.reading; signed = s.signed; gathered = g })) e)

  pub sign-is : (i : ℕ) (o : Outcome) (own held : ℕ) → own ≡ only i → held ≡ join s.gathered own
      → o ≡ settle true plan (record { round = s.round; reading = s.reading; signed = waits s; gathered = held })
      → o ≡ sign plan i s
  unfolding sign
  sign-is i o own held h e f =
      let joined : held ≡ join s.gathered (only i) = e ∙ ap (join s.gathered) h in
      f ∙ ap (λ (g : ℕ). settle true plan (record { round = s.round; reading = s.reading; signed = waits s; gathered = g })) joined

  module _ (i by : ℕ) (h : Steady plan by s) (reading : Reading) (e : reading.0 ≡ later s.reading.0 by) where
    pub moved-is : record { round = s.round; reading = reading; signed = s.signed; gathered = s.gathered } ≡ move by s
    unfolding move
    moved-is =
        let exact : reading.0 ≡ s.reading.0 + by = e ∙ omega (arith, h.reading, h.increment) in
        λ k. record { round = s.round; reading = record { 0 = exact k }; signed = s.signed; gathered = s.gathered }

    pub advance-lands : (o : Outcome) → lands plan by s ≡ true
        → o ≡ sign plan i (record { round = s.round; reading = reading; signed = s.signed; gathered = s.gathered })
        → o ≡ advance plan i by s
    unfolding advance
    advance-lands o l f = rw l (f ∙ ap (sign plan i) moved-is)

    pub advance-goes : (o : Outcome) → lands plan by s ≡ false
        → o ≡ still (record { round = s.round; reading = reading; signed = s.signed; gathered = s.gathered })
        → o ≡ advance plan i by s
    unfolding advance
    advance-goes o l f = rw l (f ∙ ap still moved-is)

  -- ---- records

  pub signed-past : (mark : ℕ) → mark ≡ mark_for plan s → mark ≤ s.reading.0 → not (eqb s.signed (waits s)) ≡ bad_signed plan s
  unfolding bad_signed
  signed-past mark m h = rw (le-leb (mark_for plan s) s.reading.0 (omega arith))

  pub signed-before : (mark : ℕ) → mark ≡ mark_for plan s → s.reading.0 < mark → leb (waits s) s.signed ≡ bad_signed plan s
  unfolding bad_signed
  signed-before mark m h = rw (lt-leb (mark_for plan s) s.reading.0 (omega arith)) (turned (waits s) s.signed)
    where
      turned : (a b : ℕ) → leb a b ≡ not (ltb b a)
      turned a b = elim (dec_le a b) [
        | yes l ↦ le-leb a b l ∙ ap not (sym (le-ltb b a l))
        | no l ↦ lt-leb a b (omega arith) ∙ ap not (sym (lt-ltb b a (omega arith)))
      ]

  -- a record that keeps the rules is within the limits
  pub sound-small : bad_board plan s ≡ false → Small plan s × (s.reading.0 ≤ max_reading)
  unfolding bad_board bad_station bad_numbers
  sound-small e =
      let a = neither (not (eqb (plan_answer plan) 0)) (bad_station plan s) e in
      let p = planned plan (eqb-true _ _ (not-false _ a.0)) in
      let b = neither (bad_numbers s || bad_signed plan s) (bad_gathered plan s) a.1 in
      let d = neither (bad_numbers s) (bad_signed plan s) b.0 in
      let n = neither (ltb max_round s.round || ltb max_reading s.reading.0) (ltb max_round s.signed) d.0 in
      let m = neither (ltb max_round s.round) (ltb max_reading s.reading.0) n.0 in
      (record { round = ltb-false _ _ m.0; period = p.limits.period.1; step = p.limits.step.1 }, ltb-false _ _ m.1)

-- ---- a board's answers

pub answered-no : (number : ℕ) (s : Station) (o outcome : Outcome) (table : ℕ) → table ≡ number → (number ≡ 0 → ⊥) → o ≡ still s
    → record { answer = number; outcome = o } ≡ answered table s outcome
unfolding answered
answered-no number s o outcome table t z e = rw (t, ne_eqb number 0 z, e)

pub answered-yes : (s : Station) (o outcome : Outcome) (table : ℕ) → table ≡ 0 → o ≡ outcome
    → record { answer = 0; outcome = o } ≡ answered table s outcome
unfolding answered
answered-yes s o outcome table t e = rw (t, e)
