-- How a script opens: its setup read and answered, and the first line; and the laws by which the code answers so, each at its
-- own test.
use Rattle.std.specs.Prelude.{ℕ, Bool, true, false, ◌<◌, ◌≤◌, List, ◌≡◌, ltb, eqb, length, take}
use Rattle.std.proofs.Math.Path.{refl}
use Rattle.std.proofs.Common.{◌∙◌}
use borrow.Author.Tests.{lt-ltb, le-ltb, eq-eqb, ne_eqb, eqb-true}
use Rattle.clock.specs.Limits.{max_script}
use Rattle.clock.specs.Pick.{pick}
use Rattle.script.specs.Read.{SetupRead}
use Rattle.script.specs.Read.{read_setup, as_setup}
use Rattle.line.specs.declared.Line.{Line}
use Rattle.line.specs.Fresh.{Begun}
use Rattle.line.specs.Fresh.{no_stations, no_plan, line_for, begun}
use Rattle.text.specs.Text.{setup_line, script_line, roomy, printed, behind}
use Rattle.run.specs.Part.{Part}

-- how a script opens: its answer, the run, the place of its first event and the first line
pub record Opening : Type 0 where
  pub answer : ℕ
  pub line : Line
  pub next : ℕ
  pub first : List ℕ

-- no run
abbrev pub closed : ℕ → ℕ → List ℕ → Opening
closed answer next first = record { answer = answer; line = line_for no_plan 0 no_stations; next = next; first = first }

-- once the setup is read, the first line is `setup` and its answer
abbrev pub begins : ℕ → Begun → Opening
begins next b = record { answer = b.answer; line = b.line; next = next; first = setup_line b.answer }

-- where the setup can't be read on, 1 is its answer, and else the only line is `script` and the number
abbrev pub stopped : ℕ → ℕ → Opening
stopped k next = closed k next (pick (eqb k 1) (setup_line k) (script_line k))

-- 1 is answered as soon as n is read; where the setup can't be read on, the only line is `script` and the number
unfoldable pub opened : SetupRead → Opening
opened r =
    pick (eqb r.answer 1) (closed 1 r.next (setup_line 1))
    (pick (eqb r.answer 0) (begins r.next (begun r.plan (take r.plan.stations r.first)))
    (closed r.answer r.next (script_line r.answer)))

-- more than 65,536 bytes are not read
unfoldable pub opening : List ℕ → Opening
opening bytes = pick (ltb max_script (length bytes)) (closed 26 (length bytes) (script_line 26)) (opened (as_setup bytes (read_setup bytes 0)))

-- as the code answers it, the line at the beginning of the buffer
abbrev pub open_part : Opening → List ℕ → Part
open_part o out = record { answer = o.answer; line = o.line; next = o.next; number = 0; place = behind (roomy out 0) 0 o.first }

abbrev pub open_out : Opening → List ℕ → List ℕ
open_out o out = printed (roomy out 0) out 0 o.first

abbrev pub ended : ℕ → ℕ → ℕ → Part
ended answer next place = record { answer = answer; line = line_for no_plan 0 no_stations; next = next; number = 0; place = place }

-- ---- the code's answers

-- what is known to be the opening is answered as such
pub open_is : (bytes out : List ℕ) (o : Opening) → opening bytes ≡ o → (p : Part) (w : List ℕ) → p ≡ open_part o out → w ≡ open_out o out
    → (p ≡ open_part (opening bytes) out) × (w ≡ open_out (opening bytes) out)
open_is bytes out o e p w ep ew = rw e (ep, ew)

pub opening-long : (bytes : List ℕ) → max_script < length bytes → opening bytes ≡ closed 26 (length bytes) (script_line 26)
unfolding opening
opening-long bytes h = rw (lt-ltb max_script (length bytes) h) refl

module _ (bytes : List ℕ) (short : length bytes ≤ max_script) (r : SetupRead) (er : r ≡ as_setup bytes (read_setup bytes 0)) where
  opening-read : opening bytes ≡ opened r
  unfolding opening
  opening-read = rw (le-ltb max_script (length bytes) short, er) refl

  -- 1
  pub opening-one : r.answer ≡ 1 → opening bytes ≡ closed 1 r.next (setup_line 1)
  unfolding opened
  opening-one e = opening-read ∙ rw (eq-eqb r.answer 1 e) refl

  module _ (other : r.answer ≡ 1 → ⊥) where
    -- 21 to 23
    pub opening-stops : (r.answer ≡ 0 → ⊥) → opening bytes ≡ closed r.answer r.next (script_line r.answer)
    unfolding opened
    opening-stops e = opening-read ∙ rw (ne_eqb r.answer 1 other, ne_eqb r.answer 0 e) refl

    -- the setup is read to its end
    pub opening-begins : r.answer ≡ 0 → (b : Begun) → b ≡ begun r.plan (take r.plan.stations r.first) → opening bytes ≡ begins r.next b
    unfolding opened
    opening-begins e b eb = opening-read ∙ rw (ne_eqb r.answer 1 other, eq-eqb r.answer 0 e, eb) refl

-- where it can't be read on: 1, or 21 to 23
pub opening-unread : (bytes : List ℕ) → length bytes ≤ max_script → (r : SetupRead) → r ≡ as_setup bytes (read_setup bytes 0)
    → (r.answer ≡ 0 → ⊥) → opening bytes ≡ stopped r.answer r.next
unfolding opening opened
opening-unread bytes short r er z = opening-read bytes short r er ∙ go (eqb r.answer 1) refl
  where
    go : (x : Bool) → eqb r.answer 1 ≡ x → opened r ≡ stopped r.answer r.next
    go true e = let is : r.answer ≡ 1 = eqb-true r.answer 1 e in rw (e, is) refl
    go false e = rw (e, ne_eqb r.answer 0 z) refl
