-- A set of stations as a number: station i is in it where bit i is set.
use Rattle.std.specs.Prelude.{ℕ, zero, suc, ◌+◌, ◌-◌, ◌/◌, ◌%◌, ◌^◌, Bool, true, false, cond, ltb, eqb}
use Rattle.std.specs.Int.Bits.{bit_and, bit_or, bit_xor}

-- station i is in the set
unfoldable pub has : ℕ → ℕ → Bool
has mask i = eqb (mask / 2 ^ i % 2) 1

-- 1 for a member, else 0
abbrev pub one : Bool → ℕ
one true = 1
one false = 0

-- how many of the stations below k have p
unfoldable pub count_to : ℕ → (ℕ → Bool) → ℕ
count_to zero p = 0
count_to (suc k) p = count_to k p + one (p k)

-- how many stations are in the set
unfoldable pub count : ℕ → ℕ
count mask = count_to 64 (has mask)

-- every station of the set is below n
unfoldable pub below : ℕ → ℕ → Bool
below mask n = ltb mask (2 ^ n)

-- the stations that are in one set or the other
unfoldable pub join : ℕ → ℕ → ℕ
join a b = bit_or a b

-- station i alone; no station, where no mask holds i
unfoldable pub only : ℕ → ℕ
only i = cond (ltb i 64) (2 ^ i) 0

-- the stations below n
unfoldable pub all : ℕ → ℕ
all n = cond (ltb n 64) (2 ^ n - 1) (2 ^ 64 - 1)

-- the stations of one set that are not in the other
unfoldable pub minus : ℕ → ℕ → ℕ
minus a b = bit_xor a (bit_and a b)
