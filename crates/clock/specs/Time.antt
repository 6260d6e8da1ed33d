-- The two kinds of time: what a span adds, where a round's mark stands, and the lead of one reading over another.
use Rattle.std.specs.Prelude.{ℕ, ◌+◌, ◌*◌, ◌≤◌, min, ◌&&◌, ◌≡◌, leb, ℤ, pos, ◌-ℤ◌}
use Rattle.std.proofs.Common.{le-leb}
use Rattle.clock.specs.Limits.{max_round, max_period, max_reading, last}
use Rattle.clock.specs.Pick.{pick}

-- a moment or a reading, a span of its own kind on; never past the largest number
abbrev pub later : ℕ → ℕ → ℕ
later x span = min (x + span) last

-- the mark of round k: k·P; past the limits, the largest number
unfoldable pub mark : ℕ → ℕ → ℕ
mark k p = pick (leb k (max_round + 1) && leb p max_period) (k * p) last

-- a's reading less b's; 0 where one is over the limit
unfoldable pub lead_of : ℕ → ℕ → ℤ
lead_of a b = pick (leb a max_reading && leb b max_reading) (pos a -ℤ pos b) (pos 0)

-- within the limits a mark is k·P
pub mark-is : (k p : ℕ) → k ≤ max_round + 1 → p ≤ max_period → mark k p ≡ k * p
unfolding mark
mark-is k p hk hp = simp (le-leb k (max_round + 1) hk, le-leb p max_period hp)

-- within the limits a lead is exact
pub lead_is : (a b : ℕ) → a ≤ max_reading → b ≤ max_reading → lead_of a b ≡ pos a -ℤ pos b
unfolding lead_of
lead_is a b ha hb = simp (le-leb a max_reading ha, le-leb b max_reading hb)
