-- `station::hear` answers a board: 10, then 11, else what the station does. Assumes nothing.
use mathlib.Core.Path.{refl, sym, ◌∙◌}
use native.Mathlib.Omega.{arith}
use Rattle.station.specs.Record.{hear_answer}
use Rattle.station.specs.Laws.{sound-small, answered-no, answered-yes}
use Rattle.station.proofs.hear.Goals as goal

pub returns-then-bad_board : goal.returns-then-bad_board
unfolding hear_answer
returns-then-bad_board c = answered-no 10 _ _ _ _ (rw (sym c.bad_board.ensures ∙ c.if-bad_board.true))
    (λ z. omega arith) refl

pub returns-then-outside-signers : goal.returns-then-outside-signers
unfolding hear_answer
returns-then-outside-signers c = answered-no 11 _ _ _ _ (rw (
  (sym c.bad_board.ensures
      ∙ c.if-bad_board.false),
  ← c.outside.ensures,
  ← c.below.ensures,
  c.if-outside-signers.true,
)) (λ z. omega arith) refl

pub invariant_of-limited : goal.invariant_of-limited
invariant_of-limited c = record {
  limits = (sound-small _ _ (sym c.bad_board.ensures
      ∙ c.if-bad_board.false)).0;
}

pub returns : goal.returns
unfolding hear_answer
returns c = answered-yes _ _ _ _ (rw (
  (sym c.bad_board.ensures
      ∙ c.if-bad_board.false),
  ← c.outside.ensures,
  ← c.below.ensures,
  c.if-outside-signers.false,
)) c.gather.ensures
