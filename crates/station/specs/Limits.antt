-- The limits within which no number of a station wraps. Every record that keeps the rules is within them.
use Rattle.std.specs.Prelude.{ℕ, ◌+◌, ◌*◌, ◌≤◌, Bool, true, ◌&&◌, ◌≡◌, leb}
use Rattle.std.proofs.Common.{mul-le-mul, arith, leb-true, le-leb}
use Rattle.clock.specs.Limits.{max_round, max_reading, max_period, max_step, max_increment}
use Rattle.clock.specs.Tests.{both}
use Rattle.clock.specs.Time.{mark, mark-is}
use Rattle.setup.specs.declared.Plan.{Plan}
use Rattle.station.specs.declared.Station.{Station}
use Rattle.station.specs.Station.{waits, mark_for}

-- its round, the period and the step
unfoldable pub small : Plan → Station → Bool
small plan s = leb s.round max_round && leb plan.period max_period && leb plan.step max_step

pub record Small (plan : Plan) (s : Station) : Type 0 where
  pub round : s.round ≤ max_round
  pub period : plan.period ≤ max_period
  pub step : plan.step ≤ max_step

pub small_is : (plan : Plan) (s : Station) → small plan s ≡ true → Small plan s
unfolding small
small_is plan s e =
    let a = both (leb s.round max_round && leb plan.period max_period) (leb plan.step max_step) e in
    let b = both (leb s.round max_round) (leb plan.period max_period) a.0 in
    record { round = leb-true _ _ b.0; period = leb-true _ _ b.1; step = leb-true _ _ a.1 }

pub is-small : (plan : Plan) (s : Station) → Small plan s → small plan s ≡ true
unfolding small
is-small plan s h = simp (le-leb _ _ h.round, le-leb _ _ h.period, le-leb _ _ h.step)

-- its reading and an increment too
unfoldable pub steady : Plan → ℕ → Station → Bool
steady plan by s = small plan s && leb s.reading.0 max_reading && leb by max_increment

pub record Steady (plan : Plan) (by : ℕ) (s : Station) : Type 0 where
  pub limits : Small plan s
  pub reading : s.reading.0 ≤ max_reading
  pub increment : by ≤ max_increment

pub steady-is : (plan : Plan) (by : ℕ) (s : Station) → steady plan by s ≡ true → Steady plan by s
unfolding steady
steady-is plan by s e =
    let a = both (small plan s && leb s.reading.0 max_reading) (leb by max_increment) e in
    let b = both (small plan s) (leb s.reading.0 max_reading) a.0 in
    record { limits = small_is plan s b.0; reading = leb-true _ _ b.1; increment = leb-true _ _ a.1 }

pub is-steady : (plan : Plan) (by : ℕ) (s : Station) → Steady plan by s → steady plan by s ≡ true
unfolding steady
is-steady plan by s h = simp (is-small plan s h.limits, le-leb _ _ h.reading, le-leb _ _ h.increment)

-- the mark that the code works out is k·P, and far from the end of a word
module _ (plan : Plan) (s : Station) (h : Small plan s) where
  pub mark-for : mark (waits s) plan.period ≡ mark_for plan s
  mark-for = mark-is (waits s) plan.period (omega (arith, h.round)) h.period

  pub mark-most : mark_for plan s ≤ (max_round + 1) * max_period
  mark-most = mul-le-mul {n₂ = max_round + 1} {m₂ = max_period} (omega (arith, h.round)) h.period
