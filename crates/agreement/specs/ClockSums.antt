-- The sums of the clock layer's proof, over plain numbers with the letters of demand 3: each rule of the setup closes one of the
-- three claims, with every inequality multiplied in a lemma of its own and then added.
use Rattle.std.specs.Prelude.{ℕ, suc, ◌+◌, ◌*◌, ◌<◌, ◌≤◌, ◌≡◌}
use Rattle.std.proofs.Common.{ap, mul-le-mul_left, le_trans, le_of_lt, mul-pos, arith}
use Rattle.std.proofs.Math.Nat.{le_of_mul-le-mul_left, lt_of_mul-lt-mul_left}

-- ---- one start and one stretch

-- a start at time s that sets a clock to no more than it may is not later than any E before it
pub set-high : (M S W c g a s E : ℕ) → M * a ≤ M * g + S * W + M * c → E ≤ s → S * E + M * a ≤ S * s + S * W + M * c + M * g
set-high M S W c g a s E high late = omega (arith, mul-le-mul_left S late)

-- from a start at s that is relayed by E, and the stretch from s to t: the most that the clock reads at t
pub most-read : (M S W c e g a s x t E : ℕ) → S * E + M * a ≤ S * s + S * W + M * c + M * g → M * x + S * s ≤ M * a + S * t + M * e
    → M * x + S * E ≤ S * t + M * g + S * W + M * (c + e)
most-read M S W c e g a s x t E relayed fast = omega arith

-- from a start at s that is no later than E, and the stretch from s to t: the least that the clock reads at t
pub least-read : (M S e g b s y t E : ℕ) → M * t + S * b ≤ M * s + S * y + S * e → g ≤ b → s ≤ E → M * t + S * g ≤ M * E + S * y + S * e
least-read M S e g b s y t E slow low late = omega (arith, mul-le-mul_left S low, mul-le-mul_left M late)

-- from a start at s that sets g or more and is relayed by t: t is soon after any time from s on
pub relayed-soon : (M S W c g a s r t : ℕ) → S * t + M * a ≤ S * s + S * W + M * c + M * g → g ≤ a → s ≤ r → S * t ≤ S * r + S * W + M * c
relayed-soon M S W c g a s r t relayed low late = omega (arith, mul-le-mul_left M low, mul-le-mul_left S late)

-- ---- the gap rule

-- what a clock reads while somebody still waits is below the next mark
pub under-mark : (M S W c e A P k x t : ℕ) → S * W + M * (c + e) + M * A < M * P
    → M * x + S * t ≤ S * t + M * (k * P + A) + S * W + M * (c + e) → x < suc k * P
under-mark M S W c e A P k x t gap most = lt_of_mul-lt-mul_left M (omega arith)

-- and so is what a start sets
pub set-under : (M S W c e A P k x : ℕ) → S * W + M * (c + e) + M * A < M * P → M * x ≤ M * (k * P + A) + S * W + M * c → x < suc k * P
set-under M S W c e A P k x gap high = lt_of_mul-lt-mul_left M (omega arith)

-- A is less than P
pub step-short : (M S W c e A P : ℕ) → S * W + M * (c + e) + M * A < M * P → A < P
step-short M S W c e A P gap = lt_of_mul-lt-mul_left M (omega arith)

-- ---- the spread rule

-- w started k at s and holds k + 1 back by y: t is soon after s
pub soon-started : (M S T e A P k b s r y t : ℕ) → M * y + S * b ≤ M * s + S * r + S * e → k * P + A ≤ b
    → M * t + S * r ≤ M * y + S * (suc k * P) + M * T → M * t + S * A ≤ M * s + S * P + S * e + M * T
soon-started M S T e A P k b s r y t slow low below = omega (arith, mul-le-mul_left S low)

-- w had not started k at y: t is soon after y
pub soon-unstarted : (M S T e A P y t : ℕ) → A < P → t ≤ y + T → M * t + S * A ≤ M * y + S * P + S * e + M * T
soon-unstarted M S T e A P y t short soon = omega (arith, mul-le-mul_left M soon, mul-le-mul_left S (le_of_lt short))

-- what is soon after E is soon after whatever is later
pub soon-later : (M S T e A P E F t : ℕ) → E ≤ F → M * t + S * A ≤ M * E + S * P + S * e + M * T → M * t + S * A ≤ M * F + S * P + S * e + M * T
soon-later M S T e A P E F t late soon = omega (arith, mul-le-mul_left M late)

-- the most, times S
most-times : (M S W c e g x t E : ℕ) → M * x + S * E ≤ S * t + M * g + S * W + M * (c + e)
    → S * M * x + S * S * E ≤ S * S * t + S * M * g + S * S * W + S * M * c + S * M * e
most-times M S W c e g x t E most = omega (arith, mul-le-mul_left S most)

-- the least, times M
least-times : (M S e g y t E : ℕ) → M * t + S * g ≤ M * E + S * y + S * e → M * M * t + S * M * g ≤ M * M * E + S * M * y + S * M * e
least-times M S e g y t E least = omega (arith, mul-le-mul_left M least)

-- K for S·S - M·M, times a time
excess-times : (M S K t : ℕ) → K + M * M ≡ S * S → K * t + M * M * t ≡ S * S * t
excess-times M S K t excess = omega (arith, ap (λ (z : ℕ). z * t) excess)

-- their sum: S·M·(C_p - C_q) <= K·(t - E) + S·S·W + S·M·(c + 2e)
apart-sum : (M S W c e K g x y t E : ℕ) → K * t + M * M * t ≡ S * S * t → K * E + M * M * E ≡ S * S * E
    → S * M * x + S * S * E ≤ S * S * t + S * M * g + S * S * W + S * M * c + S * M * e
    → M * M * t + S * M * g ≤ M * M * E + S * M * y + S * M * e
    → S * M * x + K * E ≤ S * M * y + K * t + S * S * W + S * M * c + S * M * e + S * M * e
apart-sum M S W c e K g x y t E at-t at-E most least = omega arith

-- that, times M
apart-times : (M S W c e K x y t E : ℕ) → S * M * x + K * E ≤ S * M * y + K * t + S * S * W + S * M * c + S * M * e + S * M * e
    → S * M * M * x + K * M * E ≤ S * M * M * y + K * M * t + S * S * M * W + S * M * M * c + 2 * (S * M * M * e)
apart-times M S W c e K x y t E wide = omega (arith, mul-le-mul_left M wide)

-- t is soon after E, times K
soon-times : (M S T e A P K t E : ℕ) → M * t + S * A ≤ M * E + S * P + S * e + M * T
    → K * M * t + K * S * A ≤ K * M * E + K * S * P + K * S * e + K * M * T
soon-times M S T e A P K t E soon = omega (arith, mul-le-mul_left K soon)

-- and the spread rule closes it
spread-sum : (M S T D A P e W c K x y t E : ℕ)
    → K * S * P + K * S * e + K * M * T + S * S * M * W + S * M * M * (c + 2 * e) ≤ S * M * M * D + K * S * A
    → S * M * M * x + K * M * E ≤ S * M * M * y + K * M * t + S * S * M * W + S * M * M * c + 2 * (S * M * M * e)
    → K * M * t + K * S * A ≤ K * M * E + K * S * P + K * S * e + K * M * T → S * M * M * x ≤ S * M * M * (y + D)
spread-sum M S T D A P e W c K x y t E spreads wide soon = omega arith

-- the most that p reads at t against the least that q reads, with t soon after E
pub spread-kept : (M S T D A P e W c K g x y t E : ℕ) → 1 ≤ M → M ≤ S → K + M * M ≡ S * S
    → K * S * P + K * S * e + K * M * T + S * S * M * W + S * M * M * (c + 2 * e) ≤ S * M * M * D + K * S * A
    → M * x + S * E ≤ S * t + M * g + S * W + M * (c + e) → M * t + S * g ≤ M * E + S * y + S * e
    → M * t + S * A ≤ M * E + S * P + S * e + M * T → x ≤ y + D
spread-kept M S T D A P e W c K g x y t E some faster excess spreads most least soon =
    let wide =
    apart-sum M S W c e K g x y t E (excess-times M S K t excess) (excess-times M S K E excess)
    (most-times M S W c e g x t E most) (least-times M S e g y t E least)
    in
    le_of_mul-le-mul_left {k = S * M * M}
    (spread-sum M S T D A P e W c K x y t E spreads (apart-times M S W c e K x y t E wide) (soon-times M S T e A P K t E soon))
    (mul-pos (mul-pos (le_trans some faster) some) some)

-- ---- the step rule

-- w stood no more than D behind the mark g at v and holds it back by y: u is soon after v
pub soon-marked : (M S T D e g a v r y u : ℕ) → M * y + S * a ≤ M * v + S * r + S * e → g ≤ a + D
    → M * u + S * r ≤ M * y + S * g + M * T → M * u ≤ M * v + S * (D + e) + M * T
soon-marked M S T D e g a v r y u slow near below = omega (arith, mul-le-mul_left S near)

-- or it had not come so far at v
pub soon-unmarked : (M S T D e v y u : ℕ) → u ≤ y + T → y ≤ v → M * u ≤ M * v + S * (D + e) + M * T
soon-unmarked M S T D e v y u soon late = omega (arith, mul-le-mul_left M soon, mul-le-mul_left M late)

-- a clock at its mark g at v is at most A past it soon after
pub step_kept : (M S T D A e g x v u : ℕ) → 1 ≤ M → S * (S * (D + e) + M * T) + M * M * e ≤ M * M * A
    → M * x + S * v ≤ M * g + S * u + M * e → M * u ≤ M * v + S * (D + e) + M * T → x ≤ g + A
step_kept M S T D A e g x v u some steps fast soon =
    le_of_mul-le-mul_left {k = M * M} (omega (arith, mul-le-mul_left M fast, mul-le-mul_left S soon)) (mul-pos some some)
