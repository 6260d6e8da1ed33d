-- `reader::part` hands back the part from the place, or from the end where the place is past it: all that stands behind it,
-- at its own address. Assumes nothing.
use Prim.Native.Nat.{ℕ, ◌+◌, ◌-◌, min}
use Rattle.std.proofs.Math.Decide.{dec_lt}
use mathlib.Core.List.{List}
use mathlib.Core.Path.{◌≡◌, ap, sym, ◌∙◌}
use lib.ListN.{length, take, drop, length-drop}
use lib.Seq.{take_all}
use denote.Ref.{Bor}
use native.Mathlib.Omega.{arith}
use Rattle.reader.specs.Reader.{within, part_from, part_ptr}
use Rattle.reader.specs.Laws.{within-past, within-before}
use Rattle.reader.proofs.part.Goals as goal

-- from where the part is cut, all that stands behind
behind : (b : Bor (List ℕ)) (at from : ℕ) → within b.now at ≡ from → take (length b.now - from) (drop from b.now) ≡ part_from b at
unfolding part_from
behind b at from e =
    take_all (length b.now - from) (drop from b.now) (rw length-drop (omega arith)) ∙ ap (λ (k : ℕ). drop k b.now) (sym e)

-- and its address
there : (b : Bor (List ℕ)) (at from : ℕ) → within b.now at ≡ from → ◌≡◌ {A = ℕ × ℕ} (b.ref_ptr.0, from + b.ref_ptr.1) (part_ptr b at)
unfolding part_ptr
there b at from e = ap (λ (k : ℕ). (b.ref_ptr.0, k + b.ref_ptr.1)) (sym e)

-- the place, or the end where it is past it
least : (s : List ℕ) (at : ℕ) → within s at ≡ min at (length s)
least s at = elim (dec_lt at (length s)) [
  | yes h ↦ within-before s at h ∙ omega arith
  | no h ↦ within-past s at (omega arith) ∙ omega arith
]

pub returns : goal.returns
returns c =
    let e = least c.args.bytes.now c.args.at ∙ sym c.min.ensures in
    record { bytes_left = behind c.args.bytes _ _ e; address = there c.args.bytes _ _ e }
