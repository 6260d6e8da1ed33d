-- The clock's law between any two moments, as sums: it holds over one advance that keeps the drift rule, and it adds up
-- over advances. Whoever speaks of a stretch of a clock uses this and not the rule's text.
use Rattle.std.specs.Prelude.{ℕ, ◌+◌, ◌*◌, ◌≤◌, true, ◌≡◌, leb}
use Rattle.std.proofs.Common.{arith, leb-true}
use Rattle.clock.specs.Limits.{parts}
use Rattle.clock.specs.Tests.{both}
use Rattle.clock.specs.Drift.{rate, keeps}

-- from moment t and reading c to moment u and reading e a clock of drift r went neither too slowly nor too fast
pub record Kept (r t c u e : ℕ) : Type 0 where
  pub slow : parts * u + rate r * c ≤ parts * t + rate r * e
  pub fast : parts * e + rate r * t ≤ parts * c + rate r * u

-- no time, no change
pub kept-still : (r t c : ℕ) → Kept r t c t c
kept-still r t c = record { slow = omega arith; fast = omega arith }

-- one advance by d and i that keeps the drift rule
pub kept-advance : (r t c d i : ℕ) → keeps r d i ≡ true → Kept r t c (t + d) (c + i)
unfolding keeps
kept-advance r t c d i h =
    let b = both (leb (parts * d) (rate r * i)) (leb (parts * i) (rate r * d)) h in
    let slow : parts * d ≤ rate r * i = leb-true _ _ b.0 in
    let fast : parts * i ≤ rate r * d = leb-true _ _ b.1 in
    record { slow = omega arith; fast = omega arith }

-- the law adds up: what holds from a to b and from b to c holds from a to c
pub kept_on : {r t c u e v g : ℕ} → Kept r t c u e → Kept r u e v g → Kept r t c v g
kept_on a b = record { slow = omega arith; fast = omega arith }
