-- Among f + 1 signers one is sound: at most f stations are faulty.
use Prim.Native.Nat.{ℕ, zero, suc, ◌+◌, ◌^◌, ◌<◌, ◌≤◌}
use Rattle.std.specs.Prelude.{Bool, ◌≡◌}
use Rattle.std.proofs.Math.Bool.{true, false}
use Rattle.std.proofs.Math.Path.{refl}
use native.Mathlib.Omega.{arith}
use Rattle.mask.specs.Mask.{has, count, count_to, one}
use Rattle.mask.proofs.Laws.{count-below}
use Rattle.setup.specs.declared.Plan.{Plan}
use Rattle.setup.specs.Laws.{Planned}
use Rattle.line.specs.Valid.{Sound}

-- where more have p than q, one has p and not q
pub more-than : (k : ℕ) (p q : ℕ → Bool) → count_to k q < count_to k p → (i : ℕ) × (i < k) × (p i ≡ true) × (q i ≡ false)
unfolding count_to
more-than zero p q h = absurd (omega arith)
more-than (suc k) p q h = go (p k) (q k) refl refl h (λ l. more-than k p q l)
  where
    go : (a b : Bool) → p k ≡ a → q k ≡ b → count_to k q + one b < count_to k p + one a
        → (count_to k q < count_to k p → (i : ℕ) × (i < k) × (p i ≡ true) × (q i ≡ false))
        → (i : ℕ) × (i < suc k) × (p i ≡ true) × (q i ≡ false)
    go true false e f l rest = (k, omega arith, e, f)
    go true true e f l rest = let x = rest (omega arith) in (x.0, omega (arith, x.1), x.2, x.3)
    go false true e f l rest = let x = rest (omega arith) in (x.0, omega (arith, x.1), x.2, x.3)
    go false false e f l rest = let x = rest (omega arith) in (x.0, omega (arith, x.1), x.2, x.3)

-- among f + 1 signers one is sound
pub sound-signer : (plan : Plan) → Planned plan → (g : ℕ) → g < 2 ^ plan.stations → plan.faults < count g → (i : ℕ) × Sound plan i × (has g i ≡ true)
sound-signer plan p g l h =
    let few : plan.stations ≤ 64 = omega (arith, p.stations.1) in
    let a = count-below g plan.stations l few in
    let b = count-below plan.faulty plan.stations p.marks.0 few in
    let x = more-than plan.stations (has g) (has plan.faulty) (omega (arith, p.marks.1)) in
    (x.0, record { line = x.1; unmarked = x.3 }, x.2)
