-- `script::read_numbers` reads so many numbers, one a turn, or hands on what stops one. Assumes nothing.
use Rattle.std.proofs.Common.{ℕ, ◌≤◌, ◌<◌, ◌≡◌, length, take, replicate, length-take-le, refl, ap, sym, ◌∙◌, arith}
use Rattle.number.specs.Number.{as_number}
use Rattle.script.proofs.ReadLaws.{filled_none, filled_next, filled-stopped, filled-numbers, stopped-numbers}
use Rattle.script.proofs.read.read_numbers.Goals as goal

-- as many places as numbers are asked for
places : {count : ℕ} → count ≤ 12 → length {A = ℕ} (take count (replicate 12 0)) ≡ count
places {count} h = length-take-le count (replicate 12 0) h

counted : {count i : ℕ} → count ≤ 12 → i < length {A = ℕ} (take count (replicate 12 0)) → i < count
counted h b = omega (arith, places h)

pub loop-value-init : goal.loop-value-init
loop-value-init c = filled_none _ _ _ c.requires

pub returns-in_default : goal.returns-in_default
returns-in_default c =
    stopped-numbers _ _ _ _
    (filled-stopped _ _ _ _ _ _ c.loop-value.invariant (counted c.requires c.loop-value-test.true) _
    (sym c.read_number-answer.ensures ∙ ap as_number c.unwrap_err.ensures))
    refl

pub loop-value-preserved : goal.loop-value-preserved
loop-value-preserved c =
    filled_next _ _ _ _ _ _ c.loop-value.invariant (counted c.requires c.loop-value-test.true) _ _
    (sym c.in-Ok.ensures)

pub returns : goal.returns
returns c = filled-numbers _ _ _ _ _ _ c.loop-value.invariant (omega (arith, places c.requires))
