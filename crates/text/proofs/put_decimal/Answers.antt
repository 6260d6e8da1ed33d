-- `text::put_decimal` lays one digit, two, or two and two, and leaves the rest to `put_long`. Assumes nothing.
use Prim.Native.Nat.{◌/◌, ◌%◌}
use mathlib.Core.Path.{ap, sym, ◌∙◌}
use native.Mathlib.Omega.{arith}
use Rattle.number.specs.Number.{laid}
use Rattle.text.specs.Text.{last_digits}
use Rattle.text.proofs.Laws.{laid_one, laid_both, length_digits, one-digit, two_digits, four-digits}
use Rattle.text.proofs.put_decimal.Goals as goal

pub returns-then-x-lt10 : goal.returns-then-x-lt10
returns-then-x-lt10 c =
    let one = one-digit c.args.x c.if-x-lt10.true in
    record { value = omega (arith, one.0); out_after = laid_one _ _ _ (omega (arith, c.requires)) ∙ ap (laid _ _) (sym one.1) }

pub returns-then-x-lt100 : goal.returns-then-x-lt100
returns-then-x-lt100 c =
    let a = c.args in
    let two = two_digits a.x c.if-x-lt10.false c.if-x-lt100.true in
    record { value = omega (arith, c.put_two.ensures.value, two.0); out_after = c.put_two.ensures.out_after ∙ ap (laid _ _) (sym two.1) }

pub returns-then-x-lt10000 : goal.returns-then-x-lt10000
returns-then-x-lt10000 c =
    let a = c.args in
    let len = length_digits 2 (a.x / 100) in
    let four = four-digits a.x c.if-x-lt1000.false c.if-x-lt10000.true in
    let both = laid_both _ _ (last_digits 2 (a.x / 100)) (last_digits 2 (a.x % 100)) (omega (arith, len, c.requires)) c.put_two-next.ensures.out_after (c.put_two-next.ensures.value ∙ omega (arith, len)) c.put_two-then-x-lt10000.ensures.out_after in
    record { value = omega (arith, c.put_two-next.ensures.value, c.put_two-then-x-lt10000.ensures.value, four.0); out_after = both ∙ ap (laid _ _) (sym four.1) }
