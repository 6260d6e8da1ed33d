-- `flight::move_to` copies three words: one store after the other. Assumes nothing.
use Rattle.std.proofs.Common.{◌≡◌, ℕ, ◌+◌, ◌-◌, ◌<◌, List, length, get_or, set, drop, sym, ap, ap₂, ◌∙◌, add-zero, arith, length-drop}
use Rattle.std.proofs.lemmas.List.{get_or-drop}
use Rattle.std.proofs.lemmas.List.Edits.{paste_none}
use Rattle.std.proofs.Math.Seq.{paste, paste-suc}
use Rattle.flight.specs.Message.{stored}
use Rattle.flight.proofs.move_to.Goals as goal

-- the first three words of s laid over l from a place on
pasted : (l s : List ℕ) (at : ℕ) → 2 < length s → at + 2 < length l
    → paste l at s 3 ≡ stored l at (get_or s 0 0) (get_or s 1 0) (get_or s 2 0)
pasted l s at f h =
    let first : set l at (get_or s 0 0) ≡ paste l at s 1 =
    ap₂ (λ (t : List ℕ) (k : ℕ). set t k (get_or s 0 0)) (paste_none l at s) (sym (add-zero at)) ∙ paste-suc l at s 0 0 (omega arith) (omega arith) in
    sym (ap (λ (t : List ℕ). set (set t (at + 1) (get_or s 1 0)) (at + 2) (get_or s 2 0)) first
    ∙ ap (λ (t : List ℕ). set t (at + 2) (get_or s 2 0)) (paste-suc l at s 1 0 (omega arith) (omega arith))
    ∙ paste-suc l at s 2 0 h f)

copied : (l : List ℕ) (from at : ℕ) → from + 2 < length l → at + 2 < length l
    → paste l at (drop from l) (from + 3 - from) ≡ stored l at (get_or l from 0) (get_or l (from + 1) 0) (get_or l (from + 2) 0)
copied l from at f h =
    let three : from + 3 - from ≡ 3 = omega arith in
    let first : get_or (drop from l) 0 0 ≡ get_or l from 0 = get_or-drop from l 0 0 ∙ ap (λ (k : ℕ). get_or l k 0) (add-zero from) in
    ap (paste l at (drop from l)) three
    ∙ pasted l (drop from l) at (omega (arith, length-drop from l)) h
    ∙ (λ j. stored l at (first j) (get_or-drop from l 1 0 j) (get_or-drop from l 2 0 j))

pub returns : goal.returns
returns c = c.copy_within.ensures.after ∙ copied c.args.words.now c.args.from c.args.at c.requires.0 c.requires.1
