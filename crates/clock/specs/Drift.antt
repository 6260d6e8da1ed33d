-- The drift rule of one increment.
use Rattle.std.specs.Prelude.{ℕ, ◌+◌, ◌*◌, ◌≤◌, Bool, ◌&&◌, ◌≡◌, leb}
use Rattle.std.proofs.Common.{le-leb}
use Rattle.clock.specs.Limits.{parts, max_drift, max_advance, max_increment}

-- document 01's S = M + r
abbrev pub rate : ℕ → ℕ
rate r = parts + r

-- an increment i over d keeps the rule: M·d <= S·i and M·i <= S·d
unfoldable pub keeps : ℕ → ℕ → ℕ → Bool
keeps r d i = leb (parts * d) (rate r * i) && leb (parts * i) (rate r * d)

-- it keeps the rule, and all three are within their limits
unfoldable pub in_drift : ℕ → ℕ → ℕ → Bool
in_drift r d i = leb r max_drift && (leb d max_advance && (leb i max_increment && keeps r d i))

-- within the limits nothing but the rule is asked
pub in_drift-is : (r d i : ℕ) → r ≤ max_drift → d ≤ max_advance → i ≤ max_increment → in_drift r d i ≡ keeps r d i
unfolding in_drift
in_drift-is r d i hr hd hi = simp (le-leb r max_drift hr, le-leb d max_advance hd, le-leb i max_increment hi)
