-- The numbers of document 01, "Numbers a caller gets back" and "Scripts": each refusal's own, and 0 for what is accepted.
use Rattle.std.specs.Prelude.{ℕ, Option, Some, None, Result, Ok, Err}
use Rattle.refusal.specs.declared.Refusal.{Refusal}
use Rattle.refusal.specs.declared.Refusal.TheVariants.{Stations, Faults, Limits, Marks, Gap, Step, Spread, First, Record, Barred, Exceeds, Drifts, Passes, Overdue, NoMessage, SoundSender, Unsigned, Full, Cut, LastZero, TenthByte, Kind, Short, Long, NotSound, Rounds}

abbrev pub number : Refusal → ℕ
number Stations = 1
number Faults = 2
number Limits = 3
number Marks = 4
number Gap = 5
number Step = 6
number Spread = 7
number First = 8
number Record = 10
number Barred = 11
number Exceeds = 12
number Drifts = 13
number Passes = 14
number Overdue = 15
number NoMessage = 16
number SoundSender = 17
number Unsigned = 18
number Full = 19
number Cut = 21
number LastZero = 22
number TenthByte = 23
number Kind = 24
number Short = 25
number Long = 26
number NotSound = 31
number Rounds = 32

-- what a caller gets back
abbrev pub answer : {A : Type 0} → Result A Refusal → ℕ
answer (Ok x) = 0
answer (Err r) = number r

-- 0 where nothing stops
abbrev pub stop : Option Refusal → ℕ
stop None = 0
stop (Some r) = number r
