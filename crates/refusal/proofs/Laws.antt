-- A number has one refusal: it can be named again.
use Rattle.std.specs.Prelude.{ℕ, ◌≡◌, refl, Bool, true, false, eqb, Result, Ok, Err, is_err}
use Rattle.std.specs.Result.{IsErrAnd}
use Rattle.std.proofs.Common.{sym, ap, ◌∙◌, arith}
use Rattle.refusal.specs.declared.Refusal.{Refusal}
use Rattle.refusal.specs.declared.Refusal.TheVariants.{Stations, Faults, Limits, Marks, Gap, Step, Spread, First, Record, Barred, Exceeds, Drifts, Passes, Overdue, NoMessage, SoundSender, Unsigned, Full, Cut, LastZero, TenthByte, Kind, Short, Long, NotSound, Rounds}
use Rattle.refusal.specs.Refusal.{number, answer}

choose : Bool → Refusal → Refusal → Refusal
choose true a b = a
choose false a b = b

named : ℕ → Refusal
named k =
    choose (eqb k 1) Stations (
    choose (eqb k 2) Faults (
    choose (eqb k 3) Limits (
    choose (eqb k 4) Marks (
    choose (eqb k 5) Gap (
    choose (eqb k 6) Step (
    choose (eqb k 7) Spread (
    choose (eqb k 8) First (
    choose (eqb k 10) Record (
    choose (eqb k 11) Barred (
    choose (eqb k 12) Exceeds (
    choose (eqb k 13) Drifts (
    choose (eqb k 14) Passes (
    choose (eqb k 15) Overdue (
    choose (eqb k 16) NoMessage (
    choose (eqb k 17) SoundSender (
    choose (eqb k 18) Unsigned (
    choose (eqb k 19) Full (
    choose (eqb k 21) Cut (
    choose (eqb k 22) LastZero (
    choose (eqb k 23) TenthByte (
    choose (eqb k 24) Kind (
    choose (eqb k 25) Short (
    choose (eqb k 26) Long (
    choose (eqb k 31) NotSound (
    Rounds)))))))))))))))))))))))))

named-number : (r : Refusal) → named (number r) ≡ r
unfolding named choose
named-number Stations = refl
named-number Faults = refl
named-number Limits = refl
named-number Marks = refl
named-number Gap = refl
named-number Step = refl
named-number Spread = refl
named-number First = refl
named-number Record = refl
named-number Barred = refl
named-number Exceeds = refl
named-number Drifts = refl
named-number Passes = refl
named-number Overdue = refl
named-number NoMessage = refl
named-number SoundSender = refl
named-number Unsigned = refl
named-number Full = refl
named-number Cut = refl
named-number LastZero = refl
named-number TenthByte = refl
named-number Kind = refl
named-number Short = refl
named-number Long = refl
named-number NotSound = refl
named-number Rounds = refl

-- two refusals of one number are one
pub number-one : (r s : Refusal) → number r ≡ number s → r ≡ s
number-one r s e = sym (named-number r) ∙ ap named e ∙ named-number s

-- no refusal's number is 0
pub refused : (r : Refusal) → number r ≡ 0 → ⊥
refused Stations e = absurd (omega (arith, e))
refused Faults e = absurd (omega (arith, e))
refused Limits e = absurd (omega (arith, e))
refused Marks e = absurd (omega (arith, e))
refused Gap e = absurd (omega (arith, e))
refused Step e = absurd (omega (arith, e))
refused Spread e = absurd (omega (arith, e))
refused First e = absurd (omega (arith, e))
refused Record e = absurd (omega (arith, e))
refused Barred e = absurd (omega (arith, e))
refused Exceeds e = absurd (omega (arith, e))
refused Drifts e = absurd (omega (arith, e))
refused Passes e = absurd (omega (arith, e))
refused Overdue e = absurd (omega (arith, e))
refused NoMessage e = absurd (omega (arith, e))
refused SoundSender e = absurd (omega (arith, e))
refused Unsigned e = absurd (omega (arith, e))
refused Full e = absurd (omega (arith, e))
refused Cut e = absurd (omega (arith, e))
refused LastZero e = absurd (omega (arith, e))
refused TenthByte e = absurd (omega (arith, e))
refused Kind e = absurd (omega (arith, e))
refused Short e = absurd (omega (arith, e))
refused Long e = absurd (omega (arith, e))
refused NotSound e = absurd (omega (arith, e))
refused Rounds e = absurd (omega (arith, e))

bit : Bool → ℕ
bit true = 1
bit false = 0

module _ {A : Type 0} where
  -- the exit of a `?` hands on the refusal that stopped it
  pub passed : {e : Refusal} (r : Result A Refusal) → IsErrAnd r (λ y. y ≡ e) → r ≡ Err e
  passed (Ok x) h = absurd h
  passed (Err y) h = ap Err h

  -- what is no error is answered with 0, and what is one is not
  pub ok-zero : (r : Result A Refusal) → is_err r ≡ false → answer r ≡ 0
  unfolding bit
  ok-zero (Ok x) e = refl
  ok-zero (Err r) e = absurd (omega (arith, ap bit e))

  pub err-number : (r : Result A Refusal) → is_err r ≡ true → answer r ≡ 0 → ⊥
  unfolding bit
  err-number (Ok x) e = absurd (omega (arith, ap bit e))
  err-number (Err r) e = refused r
