-- Laws of numbers as bytes: the byte at a place, or the end; how far the weights go, so that no sum wraps; how long the
-- bytes of a number are; and how what is laid down in two goes is laid down at once.
use Rattle.std.specs.Prelude.{ℕ, zero, suc, ◌+◌, ◌*◌, ◌-◌, ◌/◌, ◌%◌, ◌^◌, ◌<◌, ◌≤◌, Bool, true, false, ◌&&◌, not, ◌≡◌, refl, ltb, leb, eqb, get_or}
use mathlib.Core.List.{List, [], ◌∷◌, ◌++◌, append_assoc, append-nil}
use Rattle.std.proofs.Math.Path.{ap, ap₂, sym}
use Rattle.std.proofs.Common.{◌∙◌, mul-le-mul_left, mul-le-mul_right, pow-suc, mul_assoc, mul_comm, add-zero, arith, lt-ltb, le-ltb, ltb-true, ltb-false, length-take, take-append-drop, drop_at}
use Rattle.std.proofs.Math.Nat.{one-le-pow}
use Rattle.std.proofs.lemmas.Bool.{lt-leb}
use Rattle.std.proofs.lemmas.Grind.{get_or_default_zero}
use Rattle.std.proofs.Math.ListN.{length, take, drop, length-append, length-drop}
use Rattle.std.proofs.Math.Seq.{take_at, drop-drop}
use Rattle.clock.specs.Pick.{pick}
use Rattle.number.specs.Number.{Value, Refused}
use Rattle.number.specs.Number.{ends, number_from, read_number, groups, number_bytes, bytes_of, laid}

-- ---- reading

-- whether a byte stands at a place, and which
module _ (s : List ℕ) (at : ℕ) where
  pub at_end : false ≡ ltb at (length s) → length s ≤ at
  at_end e = ltb-false _ _ (sym e)

  module _ (e : true ≡ ltb at (length s)) where
    pub in_bytes : at < length s
    in_bytes = ltb-true _ _ (sym e)

    pub byte_at : {byte : ℕ} → byte ≡ get_or s at byte → get_or s at 0 ≡ byte
    byte_at {byte} h = sym (get_or_default_zero s at byte in_bytes) ∙ sym h

-- reading goes on by one byte
pub number_step : (left : ℕ) (s : List ℕ) (at weight sum : ℕ) → 0 < left
    → number_from left s at weight sum
    ≡ pick (leb (length s) at) (Refused 21)
    (pick (ltb (get_or s at 0) 128) (ends (get_or s at 0) weight sum at)
    (number_from (left - 1) s (at + 1) (weight * 128) (sum + get_or s at 0 % 128 * weight)))
unfolding number_from
number_step zero s at weight sum h = absurd (omega arith)
number_step (suc left) s at weight sum h = let e : suc left - 1 ≡ left = omega arith in rw e refl

-- a first byte below 128 is the whole number
pub number_short : (s : List ℕ) (at : ℕ) → at < length s → get_or s at 0 < 128 → read_number s at ≡ Value (get_or s at 0) (at + 1)
unfolding read_number ends
number_short s at h b = number_step 9 s at 1 0 (omega arith) ∙ simp (lt-leb _ _ h, lt-ltb _ _ b) (go (eqb (get_or s at 0) 0))
  where
    go : (zero : Bool)
        → pick (zero && not (eqb 1 1)) (Refused 22) (Value (0 + get_or s at 0 * 1) (at + 1)) ≡ Value (get_or s at 0) (at + 1)
    go true = ap (λ (k : ℕ). Value k (at + 1)) (omega arith)
    go false = ap (λ (k : ℕ). Value k (at + 1)) (omega arith)

-- with so many bytes left before the tenth, the next group weighs this much, and the sum so far is less
pub record Weight (left weight sum : ℕ) : Type 0 where
  pub weighs : weight * 128 ^ left ≡ 2 ^ 63
  pub less : sum < weight

pub weight-start : Weight 9 1 0
weight-start = record { weighs = refl; less = omega arith }

module _ (left weight sum : ℕ) (h : Weight left weight sum) where
  pub weight-most : weight ≤ 2 ^ 63
  weight-most =
      let p : weight * 1 ≤ weight * 128 ^ left = mul-le-mul_left weight (one-le-pow left 128 (omega arith)) in
      omega (arith, h.weighs)

  -- a byte before the tenth
  module _ (more : 0 < left) where
    split : weight * 128 * 128 ^ (left - 1) ≡ 2 ^ 63
    split =
        let e : left ≡ suc (left - 1) = omega arith in
        let p : 128 ^ left ≡ 128 ^ (left - 1) * 128 = ap (λ (k : ℕ). 128 ^ k) e ∙ pow-suc 128 (left - 1) in
        mul_assoc weight 128 (128 ^ (left - 1)) ∙ ap (λ (k : ℕ). weight * k) (mul_comm 128 (128 ^ (left - 1)) ∙ sym p) ∙ h.weighs

    pub weight-room : weight * 128 ≤ 2 ^ 63
    weight-room =
        let p : weight * 128 * 1 ≤ weight * 128 * 128 ^ (left - 1) =
        mul-le-mul_left (weight * 128) (one-le-pow (left - 1) 128 (omega arith))
        in
        omega (arith, split)

    pub weight-next : (byte : ℕ) → byte < 128 → Weight (left - 1) (weight * 128) (sum + byte * weight)
    weight-next byte b =
        let p : byte * weight ≤ 127 * weight = mul-le-mul_right weight (omega arith) in
        record { weighs = split; less = omega (arith, h.less) }

-- ---- writing

-- the bytes of a number go on with its next group
pub groups-last : (left v : ℕ) → v < 128 → groups left v ≡ v ∷ []
unfolding groups
groups-last zero v h = refl
groups-last (suc left) v h = simp (lt-ltb v 128 h)

pub groups-on : (left v : ℕ) → 128 ≤ v → groups (suc left) v ≡ (128 + v % 128) ∷ groups left (v / 128)
unfolding groups
groups-on left v b = simp (le-ltb v 128 b)

-- a number takes from one byte to one more than may come before the tenth
pub groups-length : (left v : ℕ) → (1 ≤ length (groups left v)) × (length (groups left v) ≤ left + 1)
unfolding groups
groups-length zero v = omega arith
groups-length (suc left) v = let h = groups-length left (v / 128) in go (ltb v 128) h
  where
    go : (b : Bool) → (1 ≤ length (groups left (v / 128))) × (length (groups left (v / 128)) ≤ left + 1)
        → (1 ≤ length (pick b (v ∷ []) ((128 + v % 128) ∷ groups left (v / 128))))
        × (length (pick b (v ∷ []) ((128 + v % 128) ∷ groups left (v / 128))) ≤ suc left + 1)
    go true h = omega arith
    go false h = omega arith

pub number-length : (v : ℕ) → (1 ≤ length (number_bytes v)) × (length (number_bytes v) ≤ 10)
unfolding number_bytes
number-length v = groups-length 9 v

pub bytes-append : (vs ws : List ℕ) → bytes_of (vs ++ ws) ≡ bytes_of vs ++ bytes_of ws
unfolding bytes_of
bytes-append [] ws = refl
bytes-append (v ∷ vs) ws = ap (λ (l : List ℕ). number_bytes v ++ l) (bytes-append vs ws) ∙ sym (append_assoc (number_bytes v) (bytes_of vs) (bytes_of ws))

pub rows-length : (vs ws : List ℕ) → length (bytes_of (vs ++ ws)) ≡ length (bytes_of vs) + length (bytes_of ws)
rows-length vs ws = ap length (bytes-append vs ws) ∙ length-append (bytes_of vs) (bytes_of ws)

module _ (out : List ℕ) (at : ℕ) where
  pub laid_none : laid out at [] ≡ out
  unfolding laid
  laid_none = rw (append-nil, add-zero) (take-append-drop at out)

  module _ (xs : List ℕ) (fits : at + length xs ≤ length out) where
    head-length : length (take at out ++ xs) ≡ at + length xs
    head-length = simp (length-append, length-take) (omega arith)

    pub length-laid : length (laid out at xs) ≡ length out
    unfolding laid
    length-laid = simp (length-append, length-drop, length-take) (omega arith)

    -- what is laid behind what was laid is laid with it
    pub laid_on : (ys : List ℕ) → laid (laid out at xs) (at + length xs) ys ≡ laid out at (xs ++ ys)
    unfolding laid
    laid_on ys =
        let front : take (at + length xs) (take at out ++ xs ++ drop (at + length xs) out) ≡ take at out ++ xs =
        take_at (take at out ++ xs) (drop (at + length xs) out) (at + length xs) head-length
        in
        let back : drop (at + length xs + length ys) (take at out ++ xs ++ drop (at + length xs) out)
        ≡ drop (at + length xs + length ys) out
        =
        sym (drop-drop (length ys) (at + length xs) (take at out ++ xs ++ drop (at + length xs) out))
        ∙ ap (drop (length ys)) (drop_at (take at out ++ xs) (drop (at + length xs) out) (at + length xs) head-length)
        ∙ drop-drop (length ys) (at + length xs) out
        in
        let ends_at : at + length xs + length ys ≡ at + length (xs ++ ys) = simp length-append (omega arith) in
        ap₂ (λ (l r : List ℕ). l ++ ys ++ r) front (back ∙ ap (λ (k : ℕ). drop k out) ends_at)
        ∙ ap (λ (l : List ℕ). l ++ drop (at + length (xs ++ ys)) out) (append_assoc (take at out) xs ys)
