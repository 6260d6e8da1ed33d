-- The setup check of document 01, "Setup" and "Numbers a caller gets back", 1 to 8.
use Rattle.std.specs.Prelude.{ℕ, ◌+◌, ◌*◌, ◌-◌, Bool, ◌&&◌, ◌||◌, not, List, ltb, leb, eqb, length}
use Rattle.clock.specs.Limits.{max_stations, max_drift, max_bound, max_spread, max_step, max_period, parts}
use Rattle.clock.specs.Drift.{rate}
use Rattle.clock.specs.Tests.{outside, some_to}
use Rattle.clock.specs.Pick.{pick, refuse, or_else}
use Rattle.mask.specs.Mask.{has, count, below}
use Rattle.setup.specs.declared.Plan.{Plan}

-- ---- the rules of a plan, n, f, r, T, D, A, P and the faulty mask

-- 1: n outside 1 to 12
unfoldable pub bad_stations : Plan → Bool
bad_stations s = outside 1 max_stations s.stations

-- 2: 2f + 1 > n
unfoldable pub bad_faults : Plan → Bool
bad_faults s = ltb s.stations (2 * s.faults + 1)

-- 3: r, T, D, A or P outside its limits
unfoldable pub bad_limits : Plan → Bool
bad_limits s =
    outside 0 max_drift s.drift
    || outside 1 max_bound s.bound
    || outside 1 max_spread s.spread
    || outside 1 max_step s.step
    || outside 1 max_period s.period

-- 4: a faulty mark at n or above, or more than f marks
unfoldable pub bad_marks : Plan → Bool
bad_marks s = not (below s.faulty s.stations) || ltb s.faults (count s.faulty)

-- gap: P > A and (P - A)·M > T·S
unfoldable pub gap : Plan → Bool
gap s = ltb s.step s.period && ltb (s.bound * rate s.drift) ((s.period - s.step) * parts)

-- step: A·M·M >= (S·D + M·T)·S
unfoldable pub steps : Plan → Bool
steps s = leb ((rate s.drift * s.spread + parts * s.bound) * rate s.drift) (s.step * parts * parts)

-- spread: D·S·M·M >= (P·S + T·M)·(S·S - M·M) + T·S·S·M
unfoldable pub spreads : Plan → Bool
spreads s =
    leb
    ((s.period * rate s.drift + s.bound * parts) * (rate s.drift * rate s.drift - parts * parts)
    + s.bound * rate s.drift * rate s.drift * parts)
    (s.spread * rate s.drift * parts * parts)

-- the answer to a plan, in the order of the checks
unfoldable pub plan_answer : Plan → ℕ
plan_answer s =
    refuse (bad_stations s) 1
    (refuse (bad_faults s) 2
    (refuse (bad_limits s) 3
    (refuse (bad_marks s) 4
    (refuse (not (gap s)) 5
    (refuse (not (steps s)) 6
    (refuse (not (spreads s)) 7 0))))))

-- ---- first readings

-- station i's first reading x breaks its rule: zero for a faulty station, for a sound one from A to A + T
unfoldable pub bad_first : Plan → ℕ → ℕ → Bool
bad_first s i x = pick (has s.faulty i) (not (eqb x 0)) (outside s.step (s.step + s.bound) x)

-- 8: not n first readings, or one that breaks its rule
unfoldable pub first_answer : Plan → List ℕ → ℕ
first_answer s first = refuse (not (eqb (length first) s.stations) || some_to (bad_first s) first s.stations) 8 0

-- the answer to a setup: its plan's, then its first readings'
unfoldable pub setup_answer : Plan → List ℕ → ℕ
setup_answer s first = or_else (plan_answer s) (first_answer s first)
