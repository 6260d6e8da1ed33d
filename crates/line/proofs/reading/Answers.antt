-- `line::reading` answers `shown`: 10, then 31, else the station's reading and round. Assumes nothing.
use mathlib.Core.Path.{sym, ◌∙◌}
use native.Mathlib.Omega.{arith}
use Rattle.line.specs.Held.{run_of}
use Rattle.line.specs.Question.{show_answer, shown-no, shown-yes}
use Rattle.line.proofs.reading.Goals as goal

pub returns-then-bad_line : goal.returns-then-bad_line
unfolding show_answer
returns-then-bad_line c = shown-no _ _ _ 10 (rw (sym c.bad_line.ensures ∙ c.if-bad_line.true)) (λ z. omega arith)

pub returns-then-not-sound : goal.returns-then-not-sound
unfolding show_answer
returns-then-not-sound c = shown-no _ _ _ 31 (rw (
  (sym c.bad_line.ensures
      ∙ c.if-bad_line.false),
  (sym c.sound.ensures ∙ c.if-not-sound.true),
))
    (λ z. omega arith)

pub returns : goal.returns
unfolding show_answer run_of
returns c = shown-yes _ _ _ _ (rw (
  (sym c.bad_line.ensures
      ∙ c.if-bad_line.false),
  (sym c.sound.ensures ∙ c.if-not-sound.false),
)) c.station_at-s.ensures
