-- `station::advance` answers a board: 10, 11, 12, 14, else what the station does. Assumes nothing.
use mathlib.Core.Path.{refl, ◌≡◌, sym, ◌∙◌}
use native.Mathlib.Omega.{arith}
use mathlib.Core.Bool.{Bool, false, ◌||◌}
use lib.Dec.{ltb, leb}
use Rattle.clock.specs.Limits.{max_increment}
use Prim.Native.Nat.{ℕ}
use borrow.Author.Tests.{ltb-false}
use Rattle.clock.specs.Tests.{neither}
use Rattle.station.specs.Limits.{Steady, is-steady}
use Rattle.station.specs.Record.{advance_answer, bad_board}
use Rattle.station.specs.Laws.{sound-small, answered-no, answered-yes}
use Rattle.setup.specs.declared.Plan.{Plan}
use Rattle.station.specs.declared.Station.{Station}
use Rattle.refusal.proofs.Laws.{refused, passed}
use Rattle.station.proofs.advance.Goals as goal

-- past 10 and 11 every number is within its limit
within : (plan : Plan) (by : ℕ) (s : Station) → bad_board plan s ≡ false → (rest : Bool) → (rest || ltb max_increment by) ≡ false
    → Steady plan by s
within plan by s e rest f =
    let w = sound-small plan s e in
    record { limits = w.0; reading = w.1; increment = ltb-false _ _ (neither rest (ltb max_increment by) f).1 }

pub returns-then-bad_board : goal.returns-then-bad_board
unfolding advance_answer
returns-then-bad_board c = answered-no 10 _ _ _ _ (rw (sym c.bad_board.ensures ∙ c.if-bad_board.true))
    (λ z. omega arith) refl

pub returns-then-plan-i : goal.returns-then-plan-i
unfolding advance_answer
returns-then-plan-i c = answered-no 11 _ _ _ _ (rw (
  (sym c.bad_board.ensures
      ∙ c.if-bad_board.false),
  ← c.has.ensures,
  c.if-plan-i.true,
))
    (λ z. omega arith) refl

pub returns-in_err-refuses : goal.returns-in_err-refuses
unfolding advance_answer
returns-in_err-refuses c =
    let a = c.args in
    let w = within a.plan a.by a.s (sym
    c.bad_board.ensures
    ∙ c.if-bad_board.false) (leb a.plan.stations
    a.i || c.has.result) c.if-plan-i.false in
    rw (passed _ c.from_residual.ensures.1) (answered-no _ _ _ _ _ (rw (
      (sym c.bad_board.ensures
          ∙ c.if-bad_board.false),
      ← c.has.ensures,
      c.if-plan-i.false,
    ) (sym (rw (is-steady
    a.plan a.by a.s w) at c.in_err-refuses.ensures))) (refused _) refl)

pub invariant_of-moving : goal.invariant_of-moving
invariant_of-moving c =
    let a = c.args in
    record {
      limits = within a.plan a.by a.s (sym c.bad_board.ensures
          ∙ c.if-bad_board.false) (leb a.plan.stations
          a.i || c.has.result) c.if-plan-i.false;
    }

pub returns : goal.returns
unfolding advance_answer
returns c =
    let a = c.args in
    let w = within a.plan a.by a.s (sym
    c.bad_board.ensures
    ∙ c.if-bad_board.false) (leb a.plan.stations
    a.i || c.has.result) c.if-plan-i.false in
    answered-yes _ _ _ _ (rw (
      (sym c.bad_board.ensures
          ∙ c.if-bad_board.false),
      ← c.has.ensures,
      c.if-plan-i.false,
    ) (sym (rw (is-steady
    a.plan a.by a.s w) at c.in_ok-refuses.ensures))) c.go_on.ensures
