-- The run that goes by value, as it is called on a table: what a fresh run and a question come to on the record that the
-- stations are taken into.
use Rattle.std.specs.Prelude.{ℕ, Result, Ok, Err, Bool, true, List, ◌≡◌}
use Rattle.std.proofs.Math.Bool.{false}
use Rattle.std.proofs.Math.Path.{refl, ap}
use Rattle.std.proofs.Common.{sym, ◌∙◌}
use Rattle.std.proofs.Math.Dec.{eqb}
use borrow.Author.Tests.{eq-eqb, ne_eqb, eqb-true}
use Rattle.clock.specs.Pick.{pick}
use Rattle.refusal.specs.declared.Refusal.{Refusal}
use Rattle.setup.specs.Setup.{setup_answer}
use Rattle.line.specs.declared.Line.{Line}
use Rattle.line.specs.Question.{Shown, Led, InFlight, as_shown, as_led, as_in_flight}
use Rattle.line.specs.Fresh.{Begun}
use Rattle.line.specs.Fresh.{no_plan, line_for, seated_to, begun}
use Rattle.line.specs.Question.{shown, led, in_flight}
use Rattle.run.specs.Play.{Played}
use Rattle.table.specs.declared.Question.{Question}
use Rattle.table.specs.declared.Question.TheVariants as asks
use Rattle.table.specs.declared.Told as code
use Rattle.table.specs.declared.Told.TheVariants as values

-- ---- a fresh run

-- no run, and the stations as they were
abbrev pub no_run : Line → Line
no_run l = record { plan = no_plan; time = record { 0 = 0 }; length = l.length; stations = l.stations; count = 0 }

-- 1 to 8, then 10 for the table's length
unfoldable pub begins : Line → List ℕ → Played
begins held first =
    pick (eqb (setup_answer held.plan first) 0)
    (pick (eqb held.length held.plan.stations)
    (record { answer = 0; line = line_for held.plan held.plan.stations (seated_to first held.plan.stations) })
    (record { answer = 10; line = no_run held }))
    (record { answer = setup_answer held.plan first; line = no_run held })

-- what is answered by a number: 0 with what it allows, else the number with nothing
pub picked : {A : Type 0} (number : ℕ) (of : A → ℕ) (x y : A) → of x ≡ 0 → of y ≡ number → of (pick (eqb number 0) x y) ≡ number
picked {A} number of x y e f = go (eqb number 0) refl
  where
    go : (b : Bool) → eqb number 0 ≡ b → of (pick b x y) ≡ number
    go true z = e ∙ sym (eqb-true _ _ z)
    go false z = f

module _ (held : Line) (first : List ℕ) (b : Begun) (e : b ≡ begun held.plan first) where
  -- the setup's own answer
  setup-answer : b.answer ≡ setup_answer held.plan first
  unfolding begun
  setup-answer = ap (λ (x : Begun). x.answer) e ∙ picked (setup_answer held.plan first) (λ (x : Begun). x.answer) _ _ refl refl

  -- 1 to 8
  pub begins-no : {l : Line} → (b.answer ≡ 0 → ⊥) → l ≡ no_run held → record { answer = b.answer; line = l } ≡ begins held first
  unfolding begins
  begins-no ne f =
      let z : eqb (setup_answer held.plan first) 0 ≡ false = ne_eqb _ 0 (λ y. ne (setup-answer ∙ y)) in
      rw z (λ i. record { answer = setup-answer i; line = f i })

  module _ (ok : b.answer ≡ 0) where
    allowed : eqb (setup_answer held.plan first) 0 ≡ true
    allowed = eq-eqb _ 0 (sym setup-answer ∙ ok)

    -- 10
    pub begins-ten : {l : Line} → (held.length ≡ held.plan.stations → ⊥) → l ≡ no_run held → record { answer = 10; line = l } ≡ begins held first
    unfolding begins
    begins-ten ne f = rw (allowed, ne_eqb held.length held.plan.stations ne) (λ i. record { answer = 10; line = f i })

    -- the run at its beginning
    pub begins-yes : held.length ≡ held.plan.stations → record { answer = 0; line = b.line } ≡ begins held first
    unfolding begins begun
    begins-yes same =
        let line-is : b.line ≡ line_for held.plan held.plan.stations (seated_to first held.plan.stations) =
        ap (λ (x : Begun). x.line) e ∙ rw allowed refl in
        rw (allowed, eq-eqb held.length held.plan.stations same) (λ i. record { answer = 0; line = line-is i })

-- ---- a question

-- what is told: the answer with its values
pub data Told : Type 0 where
  Shown_to : Shown → Told
  Led_to : Led → Told
  Flying : InFlight → Told

-- which are zero where it refuses
abbrev pub as_told : Question → Result code.Told Refusal → Told
as_told q (Ok (values.Shown x)) = Shown_to (as_shown (Ok x))
as_told q (Ok (values.Lead x)) = Led_to (as_led (Ok x))
as_told q (Ok (values.InFlight x)) = Flying (as_in_flight (Ok x))
as_told (asks.Reading i) (Err r) = Shown_to (as_shown (Err r))
as_told (asks.Lead of over) (Err r) = Led_to (as_led (Err r))
as_told asks.InFlight (Err r) = Flying (as_in_flight (Err r))

unfoldable pub told : Line → List ℕ → Question → Told
told l words (asks.Reading i) = Shown_to (shown l words i)
told l words (asks.Lead of over) = Led_to (led l words of over)
told l words asks.InFlight = Flying (in_flight l words)

module _ (l : Line) (words : List ℕ) (q : Question) where
  pub told-shown : (i : ℕ) {x : Shown} → q ≡ asks.Reading i → x ≡ shown l words i → Shown_to x ≡ told l words q
  unfolding told
  told-shown i f e = rw f (ap Shown_to e)

  pub told-led : (of over : ℕ) {x : Led} → q ≡ asks.Lead of over → x ≡ led l words of over → Led_to x ≡ told l words q
  unfolding told
  told-led of over f e = rw f (ap Led_to e)

  pub told-in-flight : {x : InFlight} → q ≡ asks.InFlight → x ≡ in_flight l words → Flying x ≡ told l words q
  unfolding told
  told-in-flight f e = rw f (ap Flying e)

-- the number of what is told
abbrev pub number_of : Told → ℕ
number_of (Shown_to x) = x.answer
number_of (Led_to x) = x.answer
number_of (Flying x) = x.answer
