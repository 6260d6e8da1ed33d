-- `line::lead` answers `led`: 10, then 31, then 32, else the difference of the two readings. Assumes nothing.
use mathlib.Core.Path.{◌≡◌, sym, ◌∙◌}
use borrow.Author.Tests.{eq-eqb, ne_eqb}
use native.Mathlib.Omega.{arith}
use mir.Syntax.{w64}
use mir.Val.{to_z, of_z}
use Rattle.line.specs.Held.{run_of}
use Rattle.line.specs.Question.{lead_answer, led-no, led-yes}
use borrow.Author.Rules.{rules}
use Rattle.line.proofs.lead.Goals as goal

pub returns-then-bad_line : goal.returns-then-bad_line
unfolding lead_answer
returns-then-bad_line c = led-no _ _ _ _ 10 (rw (sym c.bad_line.ensures ∙ c.if-bad_line.true)) (λ z. omega arith)

pub returns-then-sound : goal.returns-then-sound
unfolding lead_answer
returns-then-sound c = led-no _ _ _ _ 31 (rw (
  (sym c.bad_line.ensures
      ∙ c.if-bad_line.false),
  ← c.sound.ensures,
  ← c.sound-2.ensures,
  c.if-sound.true,
)) (λ z. omega arith)

pub returns-then-x-y : goal.returns-then-x-y
unfolding lead_answer run_of
returns-then-x-y c = led-no _ _ _ _ 32 (rw (
  (sym
      c.bad_line.ensures
      ∙ c.if-bad_line.false),
  ← c.sound.ensures,
  ← c.sound-2.ensures,
  c.if-sound.false,
  ← c.station_at-x.ensures,
  ← c.station_at-y.ensures,
  ne_eqb _ _ c.if-x-y.true,
)) (λ z. omega arith)

pub returns : goal.returns
unfolding lead_answer run_of
returns c =
    let word : to_z w64 (of_z w64 c.lead.result) ≡ c.lead.result = search rules in
    led-yes _ _ _ _ _ _ _ (rw (
      (sym
          c.bad_line.ensures
          ∙ c.if-bad_line.false),
      ← c.sound.ensures,
      ← c.sound-2.ensures,
      c.if-sound.false,
      ← c.station_at-x.ensures,
      ← c.station_at-y.ensures,
      eq-eqb _ _ c.if-x-y.false,
    ))
    c.station_at-x.ensures
    c.station_at-y.ensures (word ∙ c.lead.ensures)
