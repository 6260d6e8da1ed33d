-- `mask::below` answers `below`: a mask is a word, and a quotient by 2 ^ n is 0 just below 2 ^ n. Assumes nothing.
use Prim.Native.Nat.{ℕ, ◌<◌, ◌/◌, ◌^◌}
use mathlib.Core.Path.{◌≡◌, sym, ◌∙◌}
use native.Mathlib.Nat.{lt_of_lt_of_le, div-eq_of_lt, div-lt_iff_lt-mul}
use native.Mathlib.Decide.{dec_lt}
use borrow.Author.Tests.{lt-ltb, le-ltb, eq-eqb, ne_eqb}
use lib.Dec.{ltb, eqb}
use lib.Pow.{pow_mono, pow_pos}
use Rattle.mask.specs.Mask.{below}
use native.Mathlib.Omega.{arith}
use Rattle.mask.proofs.below.Goals as goal

quotient : (m n : ℕ) → eqb (m / 2 ^ n) 0 ≡ ltb m (2 ^ n)
quotient m n = elim (dec_lt m (2 ^ n)) [
  | yes h ↦ eq-eqb (m / 2 ^ n) 0 (div-eq_of_lt h) ∙ sym (lt-ltb m (2 ^ n) h)
  | no h ↦ ne_eqb (m / 2 ^ n) 0 (λ e. h (small e)) ∙ sym (le-ltb m (2 ^ n) (omega arith))
]
  where
    small : m / 2 ^ n ≡ 0 → m < 2 ^ n
    small e = omega (arith, (div-lt_iff_lt-mul {k = 2 ^ n} {x = m} {y = 1} (pow_pos n)).0 (omega arith))

pub returns-then-n-ge64 : goal.returns-then-n-ge64
unfolding below
returns-then-n-ge64 c = sym (lt-ltb _ _ (lt_of_lt_of_le c.ranges.mask.fits (pow_mono c.if-n-ge64.true)))

pub returns : goal.returns
unfolding below
returns c = quotient c.args.mask c.args.n
