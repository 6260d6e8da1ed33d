-- `number::read_long` answers `read_number`: each byte stops the reading, ends it, or it goes on. Assumes nothing.
use Rattle.std.proofs.Common.{ℕ, ◌+◌, ◌*◌, ◌-◌, ◌%◌, ◌≤◌, ◌<◌, ◌^◌, List, ◌≡◌, refl, sym, ◌∙◌, length, get_or, ltb, true, false, arith, le-leb, lt-ltb, le-ltb, mul-le-mul_right}
use Rattle.std.proofs.lemmas.Bool.{lt-leb}
use Rattle.number.specs.Number.{Refused}
use Rattle.number.specs.Number.{ends, number_from, read_number}
use Rattle.number.proofs.Laws.{at_end, in_bytes, byte_at, number_step, weight-start, weight-most, weight-room, weight-next}
use Rattle.number.proofs.read_long.Goals as goal

small : (byte weight : ℕ) → byte < 128 → weight * 128 ≤ 2 ^ 63 → byte * weight ≤ 2 ^ 63
small byte weight b w = let p : byte * weight ≤ 127 * weight = mul-le-mul_right weight (omega arith) in omega arith

-- a byte before the tenth: none, one that ends the number, or one that goes on
module _ (left : ℕ) (more : 0 < left) (s : List ℕ) (at weight sum : ℕ) where
  stops : false ≡ ltb at (length s) → number_from left s at weight sum ≡ Refused 21
  stops h = number_step left s at weight sum more ∙ simp (le-leb _ _ (at_end s at h))

  module _ (byte : ℕ) (h : true ≡ ltb at (length s)) (is : get_or s at 0 ≡ byte) where
    ended : byte < 128 → number_from left s at weight sum ≡ ends byte weight sum at
    ended b = number_step left s at weight sum more ∙ simp (lt-leb _ _ (in_bytes s at h), is, lt-ltb _ _ b)

    goes_on : 128 ≤ byte → number_from left s at weight sum ≡ number_from (left - 1) s (at + 1) (weight * 128) (sum + byte % 128 * weight)
    goes_on b = number_step left s at weight sum more ∙ simp (lt-leb _ _ (in_bytes s at h), is, le-ltb _ _ b)

pub loop-init : goal.loop-init
unfolding read_number
loop-init c = (weight-start, refl)

pub returns-in_default : goal.returns-in_default
returns-in_default c = sym (stops _ (omega arith) _ _ _ _ c.in_default.ensures.lookup.0) ∙ c.loop.invariant.1

pub ends-requires : goal.ends-requires
ends-requires c = (
  small _ _ c.if-byte-lt128.true (weight-room _ _ _ c.loop.invariant.0 (omega arith)),
  omega (arith, weight-most _ _ _ c.loop.invariant.0, c.loop.invariant.0.less),
  omega (arith, in_bytes _ _ c.in-Some.ensures.lookup.0),
)

pub returns-then-byte-lt128 : goal.returns-then-byte-lt128
returns-then-byte-lt128 c =
    let e = c.in-Some.ensures.lookup in
    c.ends.ensures
    ∙ sym (ended _ (omega arith) _ _ _ _ _ e.0 (byte_at _ _ e.0 e.1 ∙ sym c.from-byte.ensures) c.if-byte-lt128.true)
    ∙ c.loop.invariant.1

pub overflow_mul-sum : goal.overflow_mul-sum
overflow_mul-sum c = omega (arith, small (c.from-byte.result % 128) _ (omega arith) (weight-room _ _ _ c.loop.invariant.0 (omega arith)))

pub overflow_add-sum : goal.overflow_add-sum
overflow_add-sum c =
    omega (
      arith,
      weight-most _ _ _ c.loop.invariant.0,
      c.loop.invariant.0.less,
      small (c.from-byte.result % 128) _ (omega arith) (weight-room _ _ _ c.loop.invariant.0 (omega arith)),
    )

pub overflow_mul-weight : goal.overflow_mul-weight
overflow_mul-weight c = omega (arith, weight-room _ _ _ c.loop.invariant.0 (omega arith))

pub loop-preserved : goal.loop-preserved
loop-preserved c =
    let e = c.in-Some.ensures.lookup in
    let left : 9 - (c.loop.counter + 1) ≡ 9 - c.loop.counter - 1 = omega arith in
    rw left (
      weight-next _ _ _ c.loop.invariant.0 (omega arith) _ (omega arith),
      sym (goes_on _ (omega arith) _ _ _ _ _ e.0 (byte_at _ _ e.0 e.1 ∙ sym c.from-byte.ensures) c.if-byte-lt128.false)
          ∙ c.loop.invariant.1,
    )
