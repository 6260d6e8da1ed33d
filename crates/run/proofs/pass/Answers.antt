-- `run::pass` comes to 11, or to what the advance comes to: a message that is not barred is heard. Assumes nothing.
use Rattle.std.proofs.Common.{sym, ◌∙◌, inl, inr, arith}
use Rattle.run.specs.Limits.{advance-going}
use Rattle.run.specs.Play.{comes-no, step-barred, step-comes}
use Rattle.run.specs.Hearing.{never-deliver, never-send}
use Rattle.run.proofs.pass.Goals as goal

pub returns-then-barred : goal.returns-then-barred
returns-then-barred c =
    let no = comes-no c.args.l c.args.words.now _ _ 11 (step-barred _ _ _ _ (sym c.barred.ensures ∙ c.if-barred.true)) (λ z. omega arith) in
    record { value = no.0; words_after = no.1 }

pub advance-requires : goal.advance-requires
advance-requires c = record { held = c.requires.held; going = advance-going c.requires.held _ _ (sym c.barred.ensures ∙ c.if-barred.false) _ c.in-Advance.is }

pub returns-in-Advance : goal.returns-in-Advance
returns-in-Advance c =
    let goes = step-comes _ _ _ _ _ _ _ c.in-Advance.is (sym c.barred.ensures ∙ c.if-barred.false) c.advance.ensures.value c.advance.ensures.words_after in
    record { value = goes.0; words_after = goes.1 }

pub returns-in-Deliver : goal.returns-in-Deliver
returns-in-Deliver c =
    let open_to = sym c.barred.ensures ∙ c.if-barred.false in
    elim c.in-Deliver.is [
      | inl m ↦ absurd (never-deliver c.requires.held _ _ open_to c.requires.nobody m.0 m.1 m.2 m.3 m.4)
      | inr m ↦ absurd (never-send c.requires.held _ _ open_to c.requires.nobody m.0 m.1 m.2 m.3 m.4)
    ]
