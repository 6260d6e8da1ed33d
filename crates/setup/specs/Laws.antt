-- What follows from a setup that passes: each rule by name, as a fact about numbers.
use Rattle.std.specs.Prelude.{ℕ, ◌+◌, ◌*◌, ◌-◌, ◌≤◌, ◌<◌, ◌^◌, false, not, ◌≡◌, List, ltb, eqb, length}
use Rattle.std.proofs.Common.{ltb-true, ltb-false, leb-true, eqb-true}
use Rattle.std.proofs.lemmas.Bool.{not-false}
use Rattle.clock.specs.Limits.{parts, max_stations, max_drift, max_bound, max_spread, max_step, max_period}
use Rattle.clock.specs.Drift.{rate}
use Rattle.clock.specs.Tests.{some_to, both, neither, inside}
use Rattle.clock.specs.Pick.{refuse-none, or_else-none}
use Rattle.mask.specs.Mask.{count, below}
use Rattle.setup.specs.declared.Plan.{Plan}
use Rattle.setup.specs.Setup.{bad_stations, bad_faults, bad_limits, bad_marks, gap, steps, spreads, plan_answer, bad_first, first_answer, setup_answer}

-- r, T, D, A and P are within their limits
pub record InLimits (s : Plan) : Type 0 where
  pub drift : s.drift ≤ max_drift
  pub bound : (1 ≤ s.bound) × (s.bound ≤ max_bound)
  pub spread : (1 ≤ s.spread) × (s.spread ≤ max_spread)
  pub step : (1 ≤ s.step) × (s.step ≤ max_step)
  pub period : (1 ≤ s.period) × (s.period ≤ max_period)

-- a plan that 3 does not refuse is within its limits
pub in-limits : (s : Plan) → bad_limits s ≡ false → InLimits s
unfolding bad_limits
in-limits s e =
    let p = neither _ _ e in
    let a = neither _ _ p.0 in
    let d = neither _ _ a.0 in
    let t = neither _ _ d.0 in
    record {
      drift = (inside 0 max_drift s.drift t.0).1;
      bound = inside _ _ _ t.1;
      spread = inside _ _ _ d.1;
      step = inside _ _ _ a.1;
      period = inside _ _ _ p.1;
    }

-- a plan that passes: what each of rules 1 to 7 says
pub record Planned (s : Plan) : Type 0 where
  pub stations : (1 ≤ s.stations) × (s.stations ≤ max_stations)
  pub faults : 2 * s.faults + 1 ≤ s.stations
  pub limits : InLimits s
  pub marks : (s.faulty < 2 ^ s.stations) × (count s.faulty ≤ s.faults)
  pub gap : (s.step < s.period) × (s.bound * rate s.drift < (s.period - s.step) * parts)
  pub step : (rate s.drift * s.spread + parts * s.bound) * rate s.drift ≤ s.step * parts * parts
  pub spread : (s.period * rate s.drift + s.bound * parts) * (rate s.drift * rate s.drift - parts * parts)
      + s.bound * rate s.drift * rate s.drift * parts
      ≤ s.spread * rate s.drift * parts * parts

-- an accepted plan passes
pub planned : (s : Plan) → plan_answer s ≡ 0 → Planned s
unfolding plan_answer bad_stations bad_faults bad_marks gap steps spreads below
planned s e =
    let one = refuse-none (bad_stations s) 0 _ e in
    let two = refuse-none (bad_faults s) 1 _ one.1 in
    let three = refuse-none (bad_limits s) 2 _ two.1 in
    let four = refuse-none (bad_marks s) 3 _ three.1 in
    let five = refuse-none (not (gap s)) 4 _ four.1 in
    let six = refuse-none (not (steps s)) 5 _ five.1 in
    let seven = refuse-none (not (spreads s)) 6 _ six.1 in
    let marks = neither (not (below s.faulty s.stations)) (ltb s.faults (count s.faulty)) four.0 in
    let gaps = both _ _ (not-false (gap s) five.0) in
    record {
      stations = inside 1 max_stations s.stations one.0;
      faults = ltb-false _ _ two.0;
      limits = in-limits s three.0;
      marks = (ltb-true _ _ (not-false _ marks.0), ltb-false _ _ marks.1);
      gap = (ltb-true _ _ gaps.0, ltb-true _ _ gaps.1);
      step = leb-true _ _ (not-false (steps s) six.0);
      spread = leb-true _ _ (not-false (spreads s) seven.0);
    }

-- an accepted setup has an accepted plan, n first readings, and none that breaks its rule
pub accepted : (s : Plan) (first : List ℕ) → setup_answer s first ≡ 0
    → (plan_answer s ≡ 0) × (length first ≡ s.stations) × (some_to (bad_first s) first s.stations ≡ false)
unfolding setup_answer first_answer
accepted s first e =
    let a = or_else-none (plan_answer s) _ e in
    let b = refuse-none _ 7 0 a.1 in
    let c = neither (not (eqb (length first) s.stations)) (some_to (bad_first s) first s.stations) b.0 in
    (a.0, eqb-true _ _ (not-false _ c.0), c.1)
