-- `script::read_event` answers `read_event`: n is asked first, then the kind says which reader goes on. Assumes nothing.
use Rattle.std.proofs.Common.{arith, ℕ, List, ◌≡◌, refl, false, ap, sym, ◌∙◌, ne_eqb}
use Rattle.number.specs.Number.{Value, as_number, read_number}
use Rattle.clock.specs.Tests.{outside}
use Rattle.clock.specs.Limits.{max_stations}
use Rattle.script.specs.Read.{read_event, event_from}
use Rattle.script.proofs.ReadLaws.{unread-event}
use Rattle.script.proofs.read.read_event.Goals as goal

-- where n is one that a setup has and the kind was read
goes_on : (n : ℕ) (s : List ℕ) (at kind next : ℕ) → outside 1 max_stations n ≡ false → read_number s at ≡ Value kind next
    → event_from n s kind next ≡ read_event n s at
unfolding read_event
goes_on n s at kind next o e = rw (o, e) refl

pub returns-then-outside : goal.returns-then-outside
unfolding read_event
returns-then-outside c = unread-event _ _ 1 _ _ refl refl (rw (sym c.outside.ensures
    ∙ c.if-outside.true))

pub returns-in_default : goal.returns-in_default
unfolding read_event
returns-in_default c = unread-event _ _ _ _ _ refl refl (rw (
  (sym
      c.outside.ensures
      ∙ c.if-outside.false),
  (sym
      c.read_number-answer.ensures ∙ ap as_number c.unwrap_err.ensures),
))

pub returns-in_default-kind : goal.returns-in_default-kind
unfolding event_from
returns-in_default-kind c =
    unread-event _ _ 24 _ _ refl refl
    (sym (goes_on _ _ _ _ _ (sym c.outside.ensures ∙ c.if-outside.false) (sym c.in-Ok.ensures))
    ∙ rw (ne_eqb c.in-Ok.kind 1 (λ e. omega (arith, e)), ne_eqb c.in-Ok.kind 2 (λ e. omega (arith, e)), ne_eqb c.in-Ok.kind 3 (λ e. omega (arith, e))))
