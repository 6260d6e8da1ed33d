-- The clocks of a course keep the laws of `Clocks`: each step moves a clock by the drift rule, starts a round or leaves it, and
-- the three rules of the setup are used through one consequence each.
use Rattle.std.specs.Prelude.{ℕ, zero, suc, ◌+◌, ◌*◌, ◌-◌, ◌<◌, ◌≤◌, Bool, true, false, ◌≡◌, refl}
use Rattle.std.proofs.Common.{ap, ◌∙◌, arith}
use Rattle.std.proofs.Math.Decide.{dec_le}
use Rattle.clock.specs.Limits.{parts}
use Rattle.clock.specs.Drift.{rate, keeps}
use Rattle.setup.specs.declared.Plan.{Plan}
use Rattle.station.specs.declared.Station.{Station}
use Rattle.station.specs.declared.Outcome.{Outcome}
use Rattle.station.specs.Station.{waits, mark_for, still, start, settle, gather, sign, move}
use Rattle.line.specs.Run.{Run, station_at}
use Rattle.line.specs.Valid.{Sound}
use Rattle.line.proofs.Moves.{settle-either, hear-either}
use Rattle.agreement.specs.Clocks.{Clocks}
use Rattle.agreement.specs.ClockLaws.{climbs}
use Rattle.agreement.specs.Steps.{Turn, idle, ticks, signs, hears}
use Rattle.agreement.specs.Course.{Course}
use Rattle.agreement.specs.Kept.{Kept, kept-still, kept-advance, kept_on}

-- ---- the setup's rules

pub gap_of : (r t a p : ℕ) → a < p → t * rate r < (p - a) * parts → rate r * t + parts * (0 + 0) + parts * a < parts * p
gap_of r t a p l h = omega arith

pub steps_of : (r t d a : ℕ) → (rate r * d + parts * t) * rate r ≤ a * parts * parts
    → rate r * (rate r * (d + 0) + parts * t) + parts * parts * 0 ≤ parts * parts * a
steps_of r t d a h = omega arith

pub spreads_of : (k s t d a p : ℕ) → (p * s + t * parts) * k + t * s * s * parts ≤ d * s * parts * parts
    → k * s * p + k * s * 0 + k * parts * t + s * s * parts * t + s * parts * parts * (0 + 2 * 0) ≤ s * parts * parts * d + k * s * a
spreads_of k s t d a p h = omega arith

pub excess-of : (r : ℕ) → rate r * rate r - parts * parts + parts * parts ≡ rate r * rate r
excess-of r = omega arith

-- ---- a station's clock in a step

-- from s to t while the run goes from a to b: its clock stands, goes on by the drift rule and not past the mark, or starts
pub data Clocked (plan : Plan) (a b : Run) (s t : Station) : Type 0 where
  stood : b.time ≡ a.time → t.round ≡ s.round → t.reading.0 ≡ s.reading.0 → Clocked plan a b s t
  went : (d x : ℕ) → b.time ≡ a.time + d → t.round ≡ s.round → t.reading.0 ≡ s.reading.0 + x → keeps plan.drift d x ≡ true
      → (s.reading.0 < mark_for plan s → s.reading.0 + x ≤ mark_for plan s) → Clocked plan a b s t
  started : b.time ≡ a.time → t.round ≡ waits s → t.reading.0 ≡ mark_for plan s + plan.step → Clocked plan a b s t

settle-clocked : (plan : Plan) (a b : Run) (s t : Station) (ready : Bool) → b.time ≡ a.time → t.round ≡ s.round → t.reading.0 ≡ s.reading.0
    → Clocked plan a b s (settle ready plan t).station
unfolding start
settle-clocked plan a b s t ready e r c =
    settle-either (λ o. Clocked plan a b s o.station) ready plan t
    (λ h. started e (omega (arith, r)) (omega (arith, ap (λ (x : ℕ). (x + 1) * plan.period) r)))
    (λ h. stood e r c)

turn-clocked : (plan : Plan) (shows : ℕ → ℕ → Type 0) (a b : Run) (p : ℕ) (o : Outcome) → Turn plan shows a b p o
    → Clocked plan a b (station_at a p) o.station
unfolding still move sign gather
turn-clocked plan shows a b p o (idle e t) = rw e (stood t refl refl)
turn-clocked plan shows a b p o (ticks d x e t k m) = rw e (went d x t refl refl k m)
turn-clocked plan shows a b p o (signs e t m w) = rw e (settle-clocked plan a b (station_at a p) _ true t refl refl)
turn-clocked plan shows a b p o (hears round signers e t l w) =
    rw e (hear-either (λ x. Clocked plan a b (station_at a p) x.station) plan round signers (station_at a p)
    (λ q. settle-clocked plan a b (station_at a p) (gather signers (station_at a p)) false t refl refl) (stood t refl refl))

-- ---- the clocks of a course

module _ (plan : Plan) (𝓡 : Course plan) where
  -- a station in a state
  abbrev pub at : ℕ → ℕ → Station
  at p m = station_at (𝓡.state m) p

  abbrev pub now : ℕ → ℕ
  now m = (𝓡.state m).time

  pub clocked : (p : ℕ) → Sound plan p → (m : ℕ) → Clocked plan (𝓡.state m) (𝓡.state (suc m)) (at p m) (at p (suc m))
  clocked p h m =
      let e = (𝓡.steps m).becomes p h in
      rw e (turn-clocked plan (𝓡.showing m) (𝓡.state m) (𝓡.state (suc m)) p ((𝓡.steps m).outcome p) ((𝓡.steps m).turn p h))

  -- a round never falls, and grows by one at most
  pub rounds : (p : ℕ) → Sound plan p → (m : ℕ) → ((at p m).round ≤ (at p (suc m)).round) × ((at p (suc m)).round ≤ (at p m).round + 1)
  rounds p h m = go (clocked p h m)
    where
      go : Clocked plan (𝓡.state m) (𝓡.state (suc m)) (at p m) (at p (suc m)) → ((at p m).round ≤ (at p (suc m)).round) × ((at p (suc m)).round ≤ (at p m).round + 1)
      go (stood e r c) = (omega arith, omega arith)
      go (went d x e r c k m) = (omega arith, omega arith)
      go (started e r c) = (omega arith, omega arith)

  -- where it grows, the step takes no time and sets the reading
  pub begun : (p : ℕ) → Sound plan p → (m : ℕ) → (at p m).round < (at p (suc m)).round
      → (now (suc m) ≡ now m) × ((at p (suc m)).round ≡ waits (at p m)) × ((at p (suc m)).reading.0 ≡ mark_for plan (at p m) + plan.step)
  begun p h m l = go (clocked p h m)
    where
      go : Clocked plan (𝓡.state m) (𝓡.state (suc m)) (at p m) (at p (suc m))
          → (now (suc m) ≡ now m) × ((at p (suc m)).round ≡ waits (at p m)) × ((at p (suc m)).reading.0 ≡ mark_for plan (at p m) + plan.step)
      go (stood e r c) = absurd (omega arith)
      go (went d x e r c k m) = absurd (omega arith)
      go (started e r c) = (e, r, c)

  -- the mark is not passed
  pub mark-kept : (p : ℕ) → Sound plan p → (m : ℕ) → (at p (suc m)).round ≡ (at p m).round → (at p m).reading.0 < mark_for plan (at p m)
      → (at p (suc m)).reading.0 ≤ mark_for plan (at p m)
  mark-kept p h m q l = go (clocked p h m)
    where
      go : Clocked plan (𝓡.state m) (𝓡.state (suc m)) (at p m) (at p (suc m)) → (at p (suc m)).reading.0 ≤ mark_for plan (at p m)
      go (stood e r c) = omega arith
      go (went d x e r c k f) = omega (arith, f l)
      go (started e r c) = absurd (omega arith)

  -- over several steps too a round never falls
  pub rounds-on : (p : ℕ) → Sound plan p → (i j : ℕ) → i ≤ j → (at p i).round ≤ (at p j).round
  rounds-on p h = climbs (λ m. (at p m).round) (λ m. (rounds p h m).0)

  -- the clock's law over a stretch
  pub stretch : (p : ℕ) → Sound plan p → (i j : ℕ) → i ≤ j → (at p i).round ≡ (at p j).round
      → Kept plan.drift (now i) (at p i).reading.0 (now j) (at p j).reading.0
  stretch p h i zero l q = let e : i ≡ 0 = omega arith in rw e (kept-still plan.drift (now 0) (at p 0).reading.0)
  stretch p h i (suc j) l q = elim (dec_le i j) [
    | yes b ↦
        let up = rounds-on p h i j b in
        let on = rounds p h j in
        kept_on (stretch p h i j b (omega arith)) (one (omega arith) (clocked p h j))
    | no b ↦ let e : i ≡ suc j = omega arith in rw e (kept-still plan.drift (now (suc j)) (at p (suc j)).reading.0)
  ]
    where
      one : (at p (suc j)).round ≡ (at p j).round → Clocked plan (𝓡.state j) (𝓡.state (suc j)) (at p j) (at p (suc j))
          → Kept plan.drift (now j) (at p j).reading.0 (now (suc j)) (at p (suc j)).reading.0
      one z (stood e r c) = rw (e, c) (kept-still plan.drift (now j) (at p j).reading.0)
      one z (went d x e r c k f) = rw (e, c) (kept-advance plan.drift (now j) (at p j).reading.0 d x k)
      one z (started e r c) = absurd (omega arith)

  -- the clocks of the course: e = 0, W = T, c = 0
  abbrev pub clocks : Clocks
  clocks = record {
    parts = parts;
    rate = rate plan.drift;
    bound = plan.bound;
    spread = plan.spread;
    step = plan.step;
    period = plan.period;
    ticks = 0;
    wait = plan.bound;
    slack = 0;
    excess = rate plan.drift * rate plan.drift - parts * parts;
    sound = Sound plan;
    now = now;
    waits = λ p m. waits (at p m);
    reads = λ p m. (at p m).reading.0;
    later = λ m. (𝓡.steps m).forth;
    onward = λ p h m. omega (arith, (rounds p h m).0);
    at_once = λ p h m l. (begun p h m (omega arith)).0;
    low = λ p h m k l e. set-low p h m k l e;
    high = λ p h m k l e. set-high p h m k l e;
    low_first = λ p h k e. first-low p h k e;
    high-first = λ p h k e. first-high p h k e;
    unpassed = λ p h m e l. mark-kept p h m (omega arith) l;
    fast = λ p h i j l e. omega (arith, (stretch p h i j l (omega arith)).fast);
    slow = λ p h i j l e. omega (arith, (stretch p h i j l (omega arith)).slow);
    some = omega arith;
    faster = omega arith;
    excess-is = excess-of plan.drift;
    gap = gap_of plan.drift plan.bound plan.step plan.period 𝓡.planned.gap.0 𝓡.planned.gap.1;
    steps = steps_of plan.drift plan.bound plan.spread plan.step 𝓡.planned.step;
    spreads = spreads_of (rate plan.drift * rate plan.drift - parts * parts) (rate plan.drift) plan.bound plan.spread plan.step
        plan.period 𝓡.planned.spread;
  }
    where
      exact : (p : ℕ) → Sound plan p → (m k : ℕ) → waits (at p m) < waits (at p (suc m)) → waits (at p (suc m)) ≡ suc k
          → (at p (suc m)).reading.0 ≡ k * plan.period + plan.step
      exact p h m k l e =
          let b = begun p h m (omega arith) in
          let q : waits (at p m) ≡ k = omega (arith, b.1) in
          b.2 ∙ ap (λ (x : ℕ). x * plan.period + plan.step) q

      set-low : (p : ℕ) → Sound plan p → (m k : ℕ) → waits (at p m) < waits (at p (suc m)) → waits (at p (suc m)) ≡ suc k
          → k * plan.period + plan.step ≤ (at p (suc m)).reading.0
      set-low p h m k l e = omega (arith, exact p h m k l e)

      set-high : (p : ℕ) → Sound plan p → (m k : ℕ) → waits (at p m) < waits (at p (suc m)) → waits (at p (suc m)) ≡ suc k
          → parts * (at p (suc m)).reading.0 ≤ parts * (k * plan.period + plan.step) + rate plan.drift * plan.bound + parts * 0
      set-high p h m k l e = omega (arith, exact p h m k l e)

      first-low : (p : ℕ) → Sound plan p → (k : ℕ) → waits (at p 0) ≡ suc k → k * plan.period + plan.step ≤ (at p 0).reading.0
      first-low p h k e =
          let b = 𝓡.begins p h in
          let z : k ≡ 0 = omega (arith, b.round) in
          rw z (omega (arith, b.reading.0))

      first-high : (p : ℕ) → Sound plan p → (k : ℕ) → waits (at p 0) ≡ suc k
          → parts * (at p 0).reading.0 ≤ parts * (k * plan.period + plan.step) + rate plan.drift * plan.bound + parts * 0
      first-high p h k e =
          let b = 𝓡.begins p h in
          let z : k ≡ 0 = omega (arith, b.round) in
          rw z (omega (arith, b.reading.1))
