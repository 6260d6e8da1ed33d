-- `line::bad_line` answers `bad_line`: at each `return` the tests that led there say which rule it is. Assumes nothing.
use Prim.Native.Nat.{◌*◌}
use lib.ListN.{length}
use mathlib.Core.Bool.{true}
use mathlib.Core.Path.{◌≡◌, sym, ◌∙◌}
use borrow.Author.Tests.{eq-eqb, ne_eqb, lt-ltb, le-ltb, le-leb}
use Rattle.refusal.proofs.Laws.{ok-zero, err-number}
use Rattle.setup.specs.Laws.{planned}
use Rattle.flight.specs.Message.{decode, holds, twins}
use Rattle.line.specs.HeldLaws.{rules, line-rules}
use native.Mathlib.Omega.{arith}
use Rattle.line.proofs.bad_line.Goals as goal

pub returns-then-l : goal.returns-then-l
returns-then-l c =
    let a = c.args in
    let f : true ≡ rules a.l a.words.now = rw (ne_eqb _ _ c.if-l.true) in
    f ∙ line-rules a.l a.words.now

pub returns-then-words : goal.returns-then-words
returns-then-words c =
    let a = c.args in
    let f : true ≡ rules a.l a.words.now = rw (eq-eqb _ _ c.if-l.false, ne_eqb _ _ c.if-words.true) in
    f ∙ line-rules a.l a.words.now

pub returns-then-is_err : goal.returns-then-is_err
returns-then-is_err c =
    let a = c.args in
    let f : true ≡ rules a.l a.words.now = rw (
      eq-eqb _ _ c.if-l.false,
      eq-eqb _ _
          c.if-words.false,
      ne_eqb _ _ (λ z. err-number _ (sym c.if-is_err.ensures.value) (c.plan_answer.ensures ∙ z)),
    ) in
    f ∙ line-rules a.l a.words.now

pub returns-then-l-gt-MAX_TIME : goal.returns-then-l-gt-MAX_TIME
returns-then-l-gt-MAX_TIME c =
    let a = c.args in
    let f : true ≡ rules a.l a.words.now = rw (
      eq-eqb _ _
          c.if-l.false,
      eq-eqb _ _
          c.if-words.false,
      eq-eqb _ _ (sym
          c.plan_answer.ensures ∙ ok-zero _ (sym c.if-is_err.ensures.value)),
      lt-ltb _ _
          c.if-l-gt-MAX_TIME.true,
    ) in
    f ∙ line-rules a.l a.words.now

pub some_bad_station-requires : goal.some_bad_station-requires
some_bad_station-requires c = planned _ (sym c.plan_answer.ensures ∙ ok-zero _ (sym c.if-is_err.ensures.value))

pub returns-then-some_bad_station : goal.returns-then-some_bad_station
returns-then-some_bad_station c =
    let a = c.args in
    let f : true ≡ rules a.l a.words.now = rw (
      eq-eqb _ _
          c.if-l.false,
      eq-eqb _ _
          c.if-words.false,
      eq-eqb _ _ (sym
          c.plan_answer.ensures
          ∙ ok-zero _ (sym c.if-is_err.ensures.value)),
      le-ltb _ _ c.if-l-gt-MAX_TIME.false,
      (sym
          c.some_bad_station.ensures ∙ c.if-some_bad_station.true),
    ) in
    f ∙ line-rules a.l a.words.now

pub returns-then-l-gt-MAX_FLIGHT : goal.returns-then-l-gt-MAX_FLIGHT
returns-then-l-gt-MAX_FLIGHT c =
    let a = c.args in
    let f : true ≡ rules a.l a.words.now = rw (
      eq-eqb _ _
          c.if-l.false,
      eq-eqb _ _
          c.if-words.false,
      eq-eqb _ _ (sym
          c.plan_answer.ensures
          ∙ ok-zero _ (sym c.if-is_err.ensures.value)),
      le-ltb _ _
          c.if-l-gt-MAX_TIME.false,
      (sym
          c.some_bad_station.ensures ∙ c.if-some_bad_station.false),
      lt-ltb _ _
          c.if-l-gt-MAX_FLIGHT.true,
    ) in
    f ∙ line-rules a.l a.words.now

pub returns-then-some_bad_message : goal.returns-then-some_bad_message
returns-then-some_bad_message c =
    let a =
    c.args in
    let f : true ≡ rules a.l a.words.now = rw (
      eq-eqb _ _
          c.if-l.false,
      eq-eqb _ _ c.if-words.false,
      eq-eqb _ _ (sym
          c.plan_answer.ensures
          ∙ ok-zero _ (sym c.if-is_err.ensures.value)),
      le-ltb _ _
          c.if-l-gt-MAX_TIME.false,
      (sym
          c.some_bad_station.ensures
          ∙ c.if-some_bad_station.false),
      le-ltb _ _ c.if-l-gt-MAX_FLIGHT.false,
      (sym
          c.some_bad_message.ensures ∙ c.if-some_bad_message.true),
    ) in
    f ∙ line-rules a.l a.words.now

pub returns : goal.returns
unfolding holds
returns c =
    let a =
    c.args in
    let room : holds a.l.count a.words.now ≡ true = le-leb (3 * a.l.count) (length a.words.now) (omega arith) in
    let f : twins (decode a.l.count a.words.now) ≡ rules a.l a.words.now = rw (
      eq-eqb _ _
          c.if-l.false,
      eq-eqb _ _
          c.if-words.false,
      eq-eqb _ _ (sym
          c.plan_answer.ensures
          ∙ ok-zero _ (sym c.if-is_err.ensures.value)),
      le-ltb _ _
          c.if-l-gt-MAX_TIME.false,
      (sym
          c.some_bad_station.ensures
          ∙ c.if-some_bad_station.false),
      le-ltb _ _
          c.if-l-gt-MAX_FLIGHT.false,
      (sym c.some_bad_message.ensures
          ∙ c.if-some_bad_message.false),
    ) in
    c.twins.ensures ∙ rw room (f ∙ line-rules a.l a.words.now)
