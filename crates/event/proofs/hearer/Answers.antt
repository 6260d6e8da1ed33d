-- `event::hearer` is the recipient of a message that 11 does not bar, and n for all else: `barred` asks of a message what `hearer`
-- does. Assumes nothing.
use Rattle.std.specs.Prelude.{ℕ, ◌<◌, Bool, true, false, ◌||◌, not, [], ◌≡◌, ◌⊎◌, ltb, leb, eqb}
use Rattle.std.proofs.Common.{leb-false}
use Rattle.clock.specs.Limits.{max_round}
use Rattle.clock.specs.Tests.{neither, outside}
use Rattle.mask.specs.Mask.{has, below}
use Rattle.std.proofs.Common.{sym, ap, ◌∙◌, inl, inr}
use Rattle.clock.specs.Pick.{pick}
use Rattle.event.specs.declared.Event.{Event}
use Rattle.event.specs.declared.Event.TheVariants.{Deliver, Send}
use Rattle.event.specs.Event.{bad_ends, barred, hearer}
use Rattle.event.proofs.hearer.Goals as goal

message : (n faulty : ℕ) (e : Event) (i : ℕ)
    → ((x : ℕ) × (y : ℕ) × (z : ℕ) × (e ≡ Deliver x i y z)) ⊎ ((x : ℕ) × (y : ℕ) × (z : ℕ) × (e ≡ Send x i y z))
    → hearer n faulty e ≡ pick (barred n faulty e []) n i
unfolding hearer barred
message n faulty e i (inl d) = rw d.3
message n faulty e i (inr s) = rw s.3

-- what is heard where `barred` answered b of that same event
heard : (n faulty : ℕ) (e same : Event) (i : ℕ) (b answer : Bool)
    → ((x : ℕ) × (y : ℕ) × (z : ℕ) × (e ≡ Deliver x i y z)) ⊎ ((x : ℕ) × (y : ℕ) × (z : ℕ) × (e ≡ Send x i y z))
    → same ≡ e → answer ≡ barred n faulty same [] → answer ≡ b → pick b n i ≡ hearer n faulty e
heard n faulty e same i b answer is s f a =
    ap (λ (t : Bool). pick t n i) (sym a ∙ f ∙ ap (λ (x : Event). barred n faulty x []) s) ∙ sym (message n faulty e i is)

-- a recipient that 11 lets pass is below n
low : (n faulty sender i round : ℕ) (rest : Bool) → (bad_ends n faulty sender i round || rest) ≡ false → i < n
unfolding bad_ends
low n faulty sender i round rest e =
    let ends = (neither (bad_ends n faulty sender i round) rest e).0 in
    let stations = (neither _ (eqb sender i) (neither _ (has faulty i) (neither _ (outside 1 max_round round) ends).0).0).0 in
    leb-false n i (neither (leb n sender) (leb n i) stations).1

within : (n faulty : ℕ) (e same : Event) (i : ℕ) (answer : Bool)
    → ((x : ℕ) × (y : ℕ) × (z : ℕ) × (e ≡ Deliver x i y z)) ⊎ ((x : ℕ) × (y : ℕ) × (z : ℕ) × (e ≡ Send x i y z))
    → same ≡ e → answer ≡ barred n faulty same [] → answer ≡ false → i < n
unfolding barred
within n faulty e same i answer (inl d) s f a =
    low n faulty d.0 i d.1 (ltb 1 d.2) (sym (ap (λ (x : Event). barred n faulty x []) (s ∙ d.3)) ∙ sym f ∙ a)
within n faulty e same i answer (inr d) s f a =
    let ok = sym (ap (λ (x : Event). barred n faulty x []) (s ∙ d.3)) ∙ sym f ∙ a in
    low n faulty d.0 i d.1 (eqb d.2 0) (neither _ (not (below d.2 n)) ok).0

pub returns-in-Advance : goal.returns-in-Advance
unfolding hearer
returns-in-Advance c = record { heard = rw c.in-Advance.is; within = tt }

pub returns-then-barred : goal.returns-then-barred
returns-then-barred c = record { heard = heard _ _ _ _ _ true _ c.in-Deliver.is c.in-Deliver.event-is c.barred.ensures c.if-barred.true; within = tt }

pub returns-else-barred : goal.returns-else-barred
returns-else-barred c =
    record {
      heard = heard _ _ _ _ _ false _ c.in-Deliver.is c.in-Deliver.event-is c.barred.ensures c.if-barred.false;
      within = within _ _ _ _ _ _ c.in-Deliver.is c.in-Deliver.event-is c.barred.ensures c.if-barred.false;
    }
