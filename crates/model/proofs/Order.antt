-- The order of the refusals 10 to 19 as facts: a number is answered where its test holds and the tests before it in document
-- 01's list fail, whatever the tests behind it say. Each is the table computed as far as that test.
use Rattle.std.specs.Prelude.{ℕ, ◌+◌, true, false, ◌||◌, not, List, ◌≡◌, ltb, eqb, length}
use Rattle.std.proofs.Math.Path.{refl}
use Rattle.clock.specs.Limits.{max_time}
use Rattle.clock.specs.Pick.{refuse}
use Rattle.mask.specs.Mask.{has}
use Rattle.flight.specs.Message.{index_of, overdue}
use Rattle.event.specs.declared.Event.{Event}
use Rattle.event.specs.declared.Event.TheVariants.{Advance, Deliver, Send}
use Rattle.event.specs.Event.{barred}
use Rattle.model.specs.Run.{Run}
use Rattle.model.specs.Record.{some_station, bad_record}
use Rattle.model.specs.Event.{names_of, effect, exceeds_at, drifts_at, passes_at, unsigned, full, event_rules, step_answer, event_answer}

-- ---- any event: 10, 11

module _ (r : Run) (e : Event) (increments : List ℕ) where
  -- the record is not valid
  pub ten : bad_record r ≡ true → event_answer r e increments ≡ 10
  unfolding event_answer
  ten b = rw b refl

  module _ (not10 : bad_record r ≡ false) where
    -- the event is barred
    pub eleven : barred r.plan.stations r.plan.faulty e increments ≡ true → event_answer r e increments ≡ 11
    unfolding event_answer step_answer
    eleven b = rw (not10, b) refl

    -- the event's own rules are asked behind them
    pub rules-last : barred r.plan.stations r.plan.faulty e increments ≡ false → event_answer r e increments ≡ event_rules r e increments
    unfolding event_answer step_answer
    rules-last b = rw (not10, b) refl

-- ---- advance: 12, 13, 14, 15, 19

module _ (r : Run) (d : ℕ) (increments : List ℕ) where
  -- time or a reading would exceed its limit, or a station in round 1,000,000 would reach its next mark
  pub twelve : (ltb max_time (r.time + d) || some_station (exceeds_at r increments) r.plan.stations) ≡ true
      → event_rules r (Advance d) increments ≡ 12
  unfolding event_rules
  twelve e = rw e refl

  module _ (not12 : (ltb max_time (r.time + d) || some_station (exceeds_at r increments) r.plan.stations) ≡ false) where
    -- an increment breaks the drift rule
    pub thirteen : some_station (drifts_at r d increments) r.plan.stations ≡ true → event_rules r (Advance d) increments ≡ 13
    unfolding event_rules
    thirteen e = rw (not12, e) refl

    module _ (not13 : some_station (drifts_at r d increments) r.plan.stations ≡ false) where
      -- a mark would be passed
      pub fourteen : some_station (passes_at r increments) r.plan.stations ≡ true → event_rules r (Advance d) increments ≡ 14
      unfolding event_rules
      fourteen e = rw (not12, not13, e) refl

      module _ (not14 : some_station (passes_at r increments) r.plan.stations ≡ false) where
        -- a message in flight would be overdue
        pub fifteen : overdue (r.time + d) r.plan.bound r.flight ≡ true → event_rules r (Advance d) increments ≡ 15
        unfolding event_rules
        fifteen e = rw (not12, not13, not14, e) refl

        -- 19 is asked last
        pub advance-last : overdue (r.time + d) r.plan.bound r.flight ≡ false
            → event_rules r (Advance d) increments ≡ refuse (full (effect r (Advance d) increments)) 19 0
        unfolding event_rules
        advance-last e = rw (not12, not13, not14, e) refl

-- ---- deliver: 16, 19

module _ (r : Run) (sender recipient round kind : ℕ) (increments : List ℕ) where
  -- no such message
  pub sixteen : eqb (index_of (names_of sender recipient round kind) r.flight) (length r.flight) ≡ true
      → event_rules r (Deliver sender recipient round kind) increments ≡ 16
  unfolding event_rules
  sixteen e = rw e refl

  -- 19 is asked last
  pub deliver-last : eqb (index_of (names_of sender recipient round kind) r.flight) (length r.flight) ≡ false
      → event_rules r (Deliver sender recipient round kind) increments
      ≡ refuse (full (effect r (Deliver sender recipient round kind) increments)) 19 0
  unfolding event_rules
  deliver-last e = rw e refl

-- ---- faulty send: 17, 18, 19

module _ (r : Run) (sender recipient round signers : ℕ) (increments : List ℕ) where
  -- the sender is sound
  pub seventeen : not (has r.plan.faulty sender) ≡ true → event_rules r (Send sender recipient round signers) increments ≡ 17
  unfolding event_rules
  seventeen e = rw e refl

  module _ (not17 : not (has r.plan.faulty sender) ≡ false) where
    -- a needed signature was not made
    pub eighteen : unsigned r recipient round signers ≡ true → event_rules r (Send sender recipient round signers) increments ≡ 18
    unfolding event_rules
    eighteen e = rw (not17, e) refl

    -- 19 is asked last
    pub send-last : unsigned r recipient round signers ≡ false
        → event_rules r (Send sender recipient round signers) increments
        ≡ refuse (full (effect r (Send sender recipient round signers) increments)) 19 0
    unfolding event_rules
    send-last e = rw (not17, e) refl
