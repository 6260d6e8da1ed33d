-- `notes::again`: without a mark the answer is no, else it is whether the word's names are found before the end. Assumes nothing.
use Rattle.std.specs.Prelude.{ℕ, ◌<◌, ◌≡◌, Option, Some, None, unwrap_or, IfSome, is_some, ltb}
use Rattle.std.proofs.Common.{refl, sym, ◌∙◌, arith, lt-ltb, le-ltb}
use borrow.Author.Tests.{eq-eqb, ne_eqb}
use Rattle.notes.specs.Marks.{word-found}
use Rattle.notes.proofs.again.Goals as goal

-- a place that was found is before the end
before : (i : ℕ) (r : Option ℕ) → IfSome r (λ x. x < i) → is_some r ≡ ltb (unwrap_or r i) i
before i (Some x) h = sym (lt-ltb x i h)
before i None h = sym (le-ltb i i (omega arith))

pub returns-then-mark-eq0 : goal.returns-then-mark-eq0
returns-then-mark-eq0 c = let e = eq-eqb _ _ c.if-mark-eq0.true in rw e refl

pub returns : goal.returns
returns c =
    let a = c.args in
    let e = ne_eqb _ _ c.if-mark-eq0.false in
    let found = word-found a.i a.words.now _ a.key _ _ c.unpack-m.ensures c.requires (rw c.from.ensures at c.find.ensures.found) in
    rw e (c.is_some.ensures ∙ before a.i _ c.find.ensures.within ∙ found)
