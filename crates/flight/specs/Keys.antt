-- The names that a first word packs.
use Rattle.std.specs.Prelude.{ℕ, ◌^◌, ◌<◌}

pub record Packs (s o k : ℕ) : Type 0 where
  pub sender : s < 16
  pub round : o < 2 ^ 55
  pub kind : k < 2
