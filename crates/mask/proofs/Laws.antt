-- Laws of sets of stations: who is in a joined set and in the set of one station, how a count goes by members, and that
-- `below` speaks of members too. A bit of a number is a remainder of a quotient, so each law is one about digits.
use Rattle.std.specs.Prelude.{ℕ, zero, suc, ◌+◌, ◌*◌, ◌/◌, ◌%◌, ◌^◌, ◌<◌, ◌≤◌, ◌-◌, Bool, true, false, ◌&&◌, ◌||◌, not, cond, ◌≡◌, refl, ltb, eqb}
use Rattle.std.proofs.Common.{ap, ap₂, sym, ◌∙◌, arith, div-one, add-zero, lt_of_lt_of_le, div-lt_iff_lt-mul, lt_of_le_of_lt, mul-div_cancel, pow-suc, le-div_iff_mul-le, pow_mono, pow_pos, shr-shr, lt-ltb, le-ltb}
use Rattle.std.proofs.Math.Nat.{div-eq_of_lt, pow-succ', div-div-eq-div-mul, mul-mod_left}
use Rattle.std.proofs.Math.Decide.{dec_lt}
use Rattle.std.proofs.Math.Dec.{eqb-zero-suc, eqb-suc-zero, eqb-suc-suc}
use Rattle.std.specs.Int.Bits.{bit_and, bit_or, bit_xor}
use Rattle.std.proofs.lemmas.Nat.{and_shr, or_shr, xor_shr, and_mod, or_mod, xor_mod, and_le_l, or_lt, xor_lt, shr_le}
use Rattle.std.specs.Int.Count.{ones, ones_step}
use Rattle.std.proofs.Math.Pow.{pow-lt, ones_lt, ones_split, high}
use Rattle.mask.specs.Mask.{has, one, count_to, count, join, only, all, minus}

-- ---- counting

-- a count depends on nothing but who is counted
pub count_same : (k : ℕ) (p q : ℕ → Bool) → ((i : ℕ) → i < k → p i ≡ q i) → count_to k p ≡ count_to k q
unfolding count_to
count_same zero p q e = refl
count_same (suc k) p q e = ap₂ (λ (n : ℕ) (b : Bool). n + one b) (count_same k p q (λ i h. e i (omega arith))) (e k (omega arith))

-- the same count, begun with station 0
pub count-first : (k : ℕ) (p : ℕ → Bool) → count_to (suc k) p ≡ one (p 0) + count_to k (λ i. p (suc i))
unfolding count_to
count-first zero p = omega arith
count-first (suc k) p = omega (arith, count-first k p)

-- no more are counted than there are
pub count_most : (k : ℕ) (p : ℕ → Bool) → count_to k p ≤ k
unfolding count_to
count_most zero p = omega arith
count_most (suc k) p = let h = count_most k p in go (p k) h
  where
    go : (b : Bool) → count_to k p ≤ k → count_to k p + one b ≤ suc k
    go true h = omega arith
    go false h = omega arith

-- stations that are not counted do not matter
pub count-more : (k n : ℕ) (p : ℕ → Bool) → ((i : ℕ) → n ≤ i → p i ≡ false) → count_to (n + k) p ≡ count_to n p
unfolding count_to
count-more zero n p none = rw add-zero refl
count-more (suc k) n p none =
    let e : count_to (n + k) p ≡ count_to n p = count-more k n p none in
    let z : p (n + k) ≡ false = none (n + k) (omega arith) in
    let s : n + suc k ≡ suc (n + k) = omega arith in
    rw s (rw z (omega arith))

-- ---- bits

low : (n : ℕ) → one (eqb (n % 2) 1) ≡ n % 2
low n = go (n % 2) (omega arith)
  where
    go : (x : ℕ) → x < 2 → one (eqb x 1) ≡ x
    go zero h = refl
    go (suc zero) h = refl
    go (suc (suc x)) h = absurd (omega arith)

half_lt : (k m : ℕ) → m < 2 ^ suc k → m / 2 < 2 ^ k
half_lt k m h = (div-lt_iff_lt-mul {k = 2} {x = m} {y = 2 ^ k} (omega arith)).1 (omega (arith, pow-suc 2 k))

-- the members of half a number are the members but the first, one place down
pub has-half : (m i : ℕ) → has m (suc i) ≡ has (m / 2) i
unfolding has
has-half m i = ap (λ (x : ℕ). eqb (x % 2) 1) (ap (λ (x : ℕ). m / x) (pow-succ' 2 i) ∙ sym (div-div-eq-div-mul m 2 (2 ^ i)))

-- the set digits of a number are its members
pub ones-count : (k m : ℕ) → m < 2 ^ k → ones m ≡ count_to k (has m)
unfolding has count_to ones
ones-count zero m h = let z : m ≡ 0 = omega arith in rw z refl
ones-count (suc k) m h =
    ones_step m
    ∙ ap₂ ◌+◌ (sym (low m) ∙ ap (λ (x : ℕ). one (eqb (x % 2) 1)) (sym (div-one m)))
    (ones-count k (m / 2) (half_lt k m h) ∙ count_same k (has (m / 2)) (λ i. has m (suc i)) (λ i b. sym (has-half m i)))
    ∙ sym (count-first k (has m))

-- no member at n or above
pub has-below : (m n i : ℕ) → m < 2 ^ n → n ≤ i → has m i ≡ false
unfolding has
has-below m n i h le = ap (λ (x : ℕ). eqb (x % 2) 1) (div-eq_of_lt (lt_of_lt_of_le h (pow_mono le)))

-- where every member is below n, the count goes to n
pub count-below : (m n : ℕ) → m < 2 ^ n → n ≤ 64 → count m ≡ count_to n (has m)
unfolding count
count-below m n h le = go (64 - n) (omega arith)
  where
    use-of : (k : ℕ) → count_to (n + k) (has m) ≡ count_to n (has m)
    use-of k = count-more k n (has m) (λ i l. has-below m n i h l)

    go : (k : ℕ) → n + k ≡ 64 → count_to 64 (has m) ≡ count_to n (has m)
    go k e = ap (λ (x : ℕ). count_to x (has m)) (sym e) ∙ use-of k

-- an empty mask counts none
pub count_none : count 0 ≡ 0
unfolding count_to
count_none = count-below 0 0 (omega arith) (omega arith)

-- ---- the sets that are made

differs : Bool → Bool → Bool
differs true b = not b
differs false b = b

-- a law of two bits
bits : (f : ℕ → ℕ → ℕ) (g : Bool → Bool → Bool) → eqb (f 0 0) 1 ≡ g false false → eqb (f 0 1) 1 ≡ g false true
    → eqb (f 1 0) 1 ≡ g true false → eqb (f 1 1) 1 ≡ g true true → (x y : ℕ) → x < 2 → y < 2
    → eqb (f x y) 1 ≡ g (eqb x 1) (eqb y 1)
bits f g a b c d zero zero hx hy = a
bits f g a b c d zero (suc zero) hx hy = b
bits f g a b c d (suc zero) zero hx hy = c
bits f g a b c d (suc zero) (suc zero) hx hy = d
bits f g a b c d zero (suc (suc y)) hx hy = absurd (omega arith)
bits f g a b c d (suc zero) (suc (suc y)) hx hy = absurd (omega arith)
bits f g a b c d (suc (suc x)) y hx hy = absurd (omega arith)

-- who is in a set that is made bit by bit
bitwise : (f : ℕ → ℕ → ℕ) (g : Bool → Bool → Bool) → ((a b k : ℕ) → f a b / 2 ^ k ≡ f (a / 2 ^ k) (b / 2 ^ k))
    → ((a b k : ℕ) → f a b % 2 ^ k ≡ f (a % 2 ^ k) (b % 2 ^ k))
    → ((x y : ℕ) → x < 2 → y < 2 → eqb (f x y) 1 ≡ g (eqb x 1) (eqb y 1)) → (a b i : ℕ) → has (f a b) i ≡ g (has a i) (has b i)
unfolding has
bitwise f g shr low two a b i =
    ap (λ (x : ℕ). eqb (x % 2) 1) (shr a b i) ∙ ap (λ (x : ℕ). eqb x 1) (low (a / 2 ^ i) (b / 2 ^ i) 1)
    ∙ two (a / 2 ^ i % 2) (b / 2 ^ i % 2) (omega arith) (omega arith)

-- who is in a joined set
pub has_join : (a b i : ℕ) → has (join a b) i ≡ (has a i || has b i)
unfolding join
has_join a b i = bitwise bit_or ◌||◌ or_shr or_mod (bits bit_or ◌||◌ refl refl refl refl) a b i

-- a joined set is as low as the two
pub join-lt : (n a b : ℕ) → a < 2 ^ n → b < 2 ^ n → join a b < 2 ^ n
unfolding join
join-lt n a b ha hb = or_lt n a b ha hb

-- the only member of a power of two
pub has-power : (i j : ℕ) → has (2 ^ i) j ≡ eqb i j
unfolding has
has-power zero zero = refl
has-power zero (suc j) = has-half 1 j ∙ has-below 0 0 j (omega arith) (omega arith) ∙ sym (eqb-zero-suc j)
has-power (suc i) zero =
    ap (λ (x : ℕ). eqb (x % 2) 1) (div-one (2 ^ suc i) ∙ pow-suc 2 i)
    ∙ ap (λ (x : ℕ). eqb x 1) (mul-mod_left (2 ^ i) 2)
    ∙ sym (eqb-suc-zero i)
has-power (suc i) (suc j) =
    has-half (2 ^ suc i) j
    ∙ ap (λ (x : ℕ). has x j) (ap (λ (x : ℕ). x / 2) (pow-suc 2 i) ∙ mul-div_cancel (2 ^ i) (omega arith))
    ∙ has-power i j
    ∙ sym (eqb-suc-suc i j)

-- who is in the set of station i alone
pub has-only : (i j : ℕ) → i < 64 → has (only i) j ≡ eqb i j
unfolding only
has-only i j h = simp (lt-ltb i 64 h) (has-power i j)

-- the set of one station is not empty
pub only-some : (i : ℕ) → i < 64 → only i ≡ 0 → ⊥
unfolding only
only-some i h e =
    let t = lt-ltb i 64 h in
    let z : 2 ^ i ≡ 0 = rw t at e in
    omega (arith, pow_pos i)

pub only-lt : (i n : ℕ) → i < n → only i < 2 ^ n
unfolding only
only-lt i n h = go (ltb i 64)
  where
    go : (b : Bool) → cond b (2 ^ i) 0 < 2 ^ n
    go true = pow-lt h
    go false = pow_pos n

-- ---- `below` speaks of members

some-member : (k m : ℕ) → m < 2 ^ k → 0 < m → (i : ℕ) × (has m i ≡ true)
unfolding has
some-member zero m h p = absurd (omega arith)
some-member (suc k) m h p = go (m % 2) refl (some-member k (m / 2) half)
  where
    half : m / 2 < 2 ^ k
    half = half_lt k m h

    go : (x : ℕ) → m % 2 ≡ x → (0 < m / 2 → (i : ℕ) × (has (m / 2) i ≡ true)) → (i : ℕ) × (has m i ≡ true)
    go zero e rest = let r = rest (omega arith) in (suc r.0, has-half m r.0 ∙ r.1)
    go (suc zero) e rest = (0, ap (λ (x : ℕ). eqb (x % 2) 1) (div-one m) ∙ ap (λ (x : ℕ). eqb x 1) e)
    go (suc (suc x)) e rest = absurd (omega arith)

-- where not every member of a mask is below n, some member is at n or above
pub some-above : (m n : ℕ) → m < 2 ^ 64 → 2 ^ n ≤ m → (i : ℕ) × (n ≤ i) × (has m i ≡ true)
unfolding has
some-above m n w h =
    let r = some-member 64 (m / 2 ^ n) (lt_of_le_of_lt (shr_le m n) w) ((le-div_iff_mul-le {k = 2 ^ n} {x = 1} {y = m} (pow_pos n)).1 (omega arith)) in
    (n + r.0, omega arith, shifted r.0 ∙ r.1)
  where
    shifted : (i : ℕ) → has m (n + i) ≡ has (m / 2 ^ n) i
    shifted i = ap (λ (x : ℕ). eqb (x % 2) 1) (sym (shr-shr m n i))

-- who is in one set and not in the other
pub has-minus : (a b i : ℕ) → has (minus a b) i ≡ (has a i && not (has b i))
unfolding minus differs
has-minus a b i =
    bitwise bit_xor differs xor_shr xor_mod (bits bit_xor differs refl refl refl refl) a (bit_and a b) i
    ∙ ap (differs (has a i)) (bitwise bit_and ◌&&◌ and_shr and_mod (bits bit_and ◌&&◌ refl refl refl refl) a b i)
    ∙ rest (has a i) (has b i)
  where
    rest : (x y : Bool) → differs x (x && y) ≡ (x && not y)
    rest true true = refl
    rest true false = refl
    rest false true = refl
    rest false false = refl

-- and it is as low as the first
pub minus-lt : (n a b : ℕ) → a < 2 ^ n → minus a b < 2 ^ n
unfolding minus
minus-lt n a b h = xor_lt n a (bit_and a b) h (lt_of_le_of_lt (and_le_l a b) h)

odd : (j : ℕ) → (2 ^ suc j - 1) % 2 ≡ 1
odd j = let e : 2 ^ suc j ≡ 2 ^ j * 2 = pow-suc 2 j in omega (arith, pow_pos j)

-- who is among the stations below n
pub has_all : (n i : ℕ) → n ≤ 63 → has (all n) i ≡ ltb i n
unfolding has all
has_all n i most = elim (dec_lt i n) [
  | yes h ↦ simp (lt-ltb n 64 (omega arith)) (in_all n i h ∙ sym (lt-ltb i n h))
  | no h ↦ simp (lt-ltb n 64 (omega arith)) (has-below (2 ^ n - 1) n i (ones_lt n) (omega arith) ∙ sym (le-ltb i n (omega arith)))
]
  where
    in_all : (n i : ℕ) → i < n → eqb ((2 ^ n - 1) / 2 ^ i % 2) 1 ≡ true
    in_all n i h =
        let split : suc (n - suc i) + i ≡ n = omega arith in
        ap (λ (x : ℕ). eqb (x % 2) 1)
        (ap (λ (k : ℕ). (2 ^ k - 1) / 2 ^ i) (sym split)
        ∙ ap (λ (x : ℕ). x / 2 ^ i) (ones_split (suc (n - suc i)) i)
        ∙ high (2 ^ suc (n - suc i) - 1) i (ones_lt i))
        ∙ ap (λ (x : ℕ). eqb x 1) (odd (n - suc i))

pub all-lt : (n : ℕ) → n ≤ 63 → all n < 2 ^ n
unfolding all
all-lt n h = simp (lt-ltb n 64 (omega arith)) (ones_lt n)
