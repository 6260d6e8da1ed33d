-- A product of two numbers within their limits fits a word where the limits' product does.
use Rattle.std.specs.Prelude.{ℕ, ◌*◌, ◌≤◌, T, ltb, ◌^◌}
use Rattle.std.proofs.Common.{mul-le-mul, lt_of_le_of_lt, ltb→lt, Fits}
use Rattle.std.specs.Int.{w64}

pub fits-mul : (A B : ℕ) {a b : ℕ} → a ≤ A → b ≤ B → T (ltb (A * B) (2 ^ 64)) → Fits w64 (a * b)
fits-mul A B ha hb t = record { fits = lt_of_le_of_lt (mul-le-mul ha hb) (ltb→lt (A * B) (2 ^ 64) t) }
