-- `mask::minus` answers `minus`: what is left of a without what it shares with b, whether by `& !b` or by `^`. Assumes nothing.
use Rattle.std.proofs.Common.{ℕ, ◌-◌, ◌^◌, ◌<◌, ◌≡◌, arith}
use Rattle.std.specs.Int.Bits.{bit_and, bit_xor, and_self, xor_add_and}
use Rattle.std.proofs.lemmas.Nat.{and_assoc, and_comm, and-not}
use Rattle.mask.specs.Mask.{minus}
use Rattle.mask.proofs.minus.Goals as goal

without : (a b : ℕ) → a < 2 ^ 64 → b < 2 ^ 64 → bit_and a (2 ^ 64 - 1 - b) ≡ bit_xor a (bit_and a b)
without a b ha hb =
    let shared : bit_and a (bit_and a b) ≡ bit_and a b = rw (← and_assoc b a a, and_self a) in
    let kept = and-not 64 b a hb ha in
    let split = xor_add_and a (bit_and a b) in
    omega (arith, shared, kept, split, and_comm a (2 ^ 64 - 1 - b), and_comm a b)

pub returns : goal.returns
unfolding minus
returns c = without c.args.a c.args.b c.ranges.a.fits c.ranges.b.fits
