-- A number as bytes, document 01, "Scripts": groups of seven bits, lowest first, the top bit of a byte set where another
-- follows, in the fewest bytes.
use Rattle.std.specs.Prelude.{ℕ, Result, Ok, Err, zero, suc, ◌+◌, ◌*◌, ◌/◌, ◌%◌, ◌&&◌, not, List, [], ◌∷◌, ◌++◌, ltb, leb, eqb, length, get_or, take, drop}
use Rattle.clock.specs.Pick.{pick}
use Rattle.refusal.specs.declared.Refusal.{Refusal}
use Rattle.refusal.specs.Refusal.{number}

-- ---- reading

-- a number that was read whole and the place behind it, or the refusal: 21, 22 or 23
pub data Number : Type 0 where
  Value : ℕ → ℕ → Number
  Refused : ℕ → Number

abbrev pub as_number : Result (ℕ × ℕ) Refusal → Number
as_number (Ok x) = Value x.0 x.1
as_number (Err r) = Refused (number r)

-- a byte that none follows: 22 for a zero after others, else it ends the number
unfoldable pub ends : ℕ → ℕ → ℕ → ℕ → Number
ends byte weight sum at = pick (eqb byte 0 && not (eqb weight 1)) (Refused 22) (Value (sum + byte * weight) (at + 1))

-- the number that goes on at `at`: its groups so far make `sum`, the next one weighs `weight`, and `left` bytes may come
-- before the tenth. 21 where the bytes end, 23 for a tenth byte above 1
unfoldable pub number_from : ℕ → List ℕ → ℕ → ℕ → ℕ → Number
number_from zero s at weight sum =
    pick (leb (length s) at) (Refused 21)
    (pick (ltb 1 (get_or s at 0)) (Refused 23) (ends (get_or s at 0) weight sum at))
number_from (suc left) s at weight sum =
    pick (leb (length s) at) (Refused 21)
    (pick (ltb (get_or s at 0) 128) (ends (get_or s at 0) weight sum at)
    (number_from left s (at + 1) (weight * 128) (sum + get_or s at 0 % 128 * weight)))

-- the number at a place of the bytes, with the place behind it, or the refusal
unfoldable pub read_number : List ℕ → ℕ → Number
read_number s at = number_from 9 s at 1 0

-- ---- writing

-- the bytes of v, at most so many before a tenth
unfoldable pub groups : ℕ → ℕ → List ℕ
groups zero v = v ∷ []
groups (suc left) v = pick (ltb v 128) (v ∷ []) ((128 + v % 128) ∷ groups left (v / 128))

-- the bytes of a number
unfoldable pub number_bytes : ℕ → List ℕ
number_bytes v = groups 9 v

-- the bytes of several, one behind the other
unfoldable pub bytes_of : List ℕ → List ℕ
bytes_of [] = []
bytes_of (v ∷ vs) = number_bytes v ++ bytes_of vs

-- the buffer with bytes laid over it from a place on; those before and behind are as they were
unfoldable pub laid : List ℕ → ℕ → List ℕ → List ℕ
laid out at bytes = take at out ++ bytes ++ drop (at + length bytes) out
