-- Definitions by tests: one of two by a Bool, and a table of refusals, of which the first that applies is the answer.
use Rattle.std.specs.Prelude.{ℕ, zero, suc, Bool, true, false, ◌≡◌, refl}
use Rattle.std.proofs.Common.{arith}

-- a where the test holds, else b
abbrev pub pick {ℓ} : {A : Type ℓ} → Bool → A → A → A
pick true a b = a
pick false a b = b

-- the number where the test holds, else what the rest of the table answers
abbrev pub refuse : Bool → ℕ → ℕ → ℕ
refuse true number rest = number
refuse false number rest = rest

-- the first table's answer, and the second's where the first refuses nothing
abbrev pub or_else : ℕ → ℕ → ℕ
or_else zero rest = rest
or_else (suc number) rest = suc number

-- what is not refused passed the test, and is not refused by the rest
pub refuse-none : (test : Bool) (number rest : ℕ) → refuse test (suc number) rest ≡ 0 → (test ≡ false) × (rest ≡ 0)
refuse-none true number rest e = absurd (omega arith)
refuse-none false number rest e = (refl, e)

-- two tables that both refuse nothing
pub or_else-none : (first rest : ℕ) → or_else first rest ≡ 0 → (first ≡ 0) × (rest ≡ 0)
or_else-none zero rest e = (refl, e)
or_else-none (suc number) rest e = absurd (omega arith)

-- a first table that refuses decides
pub or_else-first : (first rest : ℕ) → (first ≡ 0 → ⊥) → or_else first rest ≡ first
or_else-first zero rest ne = absurd (ne refl)
or_else-first (suc number) rest ne = refl

-- one that refuses nothing leaves it to the second
pub or_else-rest : (first rest : ℕ) → first ≡ 0 → or_else first rest ≡ rest
or_else-rest first rest e = rw e refl
