-- Where there is room for a line: the code's test is the definition's, and the room is enough for an event's line.
use Rattle.std.specs.Prelude.{ℕ, ◌+◌, ◌-◌, ◌<◌, ◌≤◌, true, false, List, ◌++◌, ◌≡◌, leb, length}
use Rattle.std.proofs.Common.{sym, ◌∙◌, arith, length-append, le-leb, leb-true}
use Rattle.std.proofs.Math.Decide.{dec_lt}
use Rattle.std.proofs.lemmas.Bool.{lt-leb}
use Rattle.line.specs.Run.{Run}
use Rattle.text.specs.Text.{decimal, single, spaced, rounds_to, event_end, line_with, event_line, roomy}
use Rattle.text.proofs.Laws.{places-few, length-decimal, length-spaced, rounds-most}

pub roomy-not : (out : List ℕ) (at : ℕ) → length out < 320 → false ≡ roomy out at
unfolding roomy
roomy-not out at h = sym (lt-leb (at + 320) (length out) (omega arith))

pub roomy-is : (out : List ℕ) (at : ℕ) → 320 ≤ length out → leb at (length out - 320) ≡ roomy out at
unfolding roomy
roomy-is out at h = elim (dec_lt (length out - 320) at) [
  | yes b ↦ lt-leb at (length out - 320) b ∙ sym (lt-leb (at + 320) (length out) (omega arith))
  | no b ↦ le-leb at (length out - 320) (omega arith) ∙ sym (le-leb (at + 320) (length out) (omega arith))
]

pub roomy-has : (out : List ℕ) (at : ℕ) → roomy out at ≡ true → at + 320 ≤ length out
unfolding roomy
roomy-has out at e = leb-true _ _ e

-- ---- how long a line is

pieces-most : (a b c : List ℕ) (A B C : ℕ) → length a ≤ A → length b ≤ B → length c ≤ C → length (a ++ b ++ c) ≤ A + B + C
pieces-most a b c A B C p q r = omega (arith, length-append (a ++ b) c, length-append a b)

decimal-most : (x : ℕ) → length (decimal x) ≤ 20
decimal-most x = omega (arith, length-decimal x, places-few x)

spaced-most : (x : ℕ) → length (spaced x) ≤ 21
spaced-most x = omega (arith, length-spaced x, places-few x)

-- the end of the line of at most twelve stations
pub end-most : (r : Run) → r.plan.stations ≤ 12 → length (event_end r) ≤ 274
unfolding event_end
end-most r few = pieces-most (spaced _) (rounds_to r r.plan.stations) (single _) 21 252 1 (spaced-most _) (omega (arith, rounds-most r r.plan.stations)) (omega arith)

-- there is room for a number and an answer before an end
pub with-most : (number answer : ℕ) (end : List ℕ) → length end ≤ 278 → length (line_with number answer end) ≤ 319
unfolding line_with
with-most number answer end h = pieces-most (decimal _) (spaced _) end 20 21 278 (decimal-most _) (spaced-most _) h

-- and so for an event's line
pub line-most : (number answer : ℕ) (r : Run) → r.plan.stations ≤ 12 → length (event_line number answer r) ≤ 320
unfolding event_line
line-most number answer r few = omega (arith, with-most number answer (event_end r) (omega (arith, end-most r few)))
