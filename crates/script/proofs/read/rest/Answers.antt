-- `script::rest` hands back the part of the script from where its setup ends: the place is within the bytes, so that the part
-- is all that stands behind it, at its own address. Assumes nothing.
use Prim.Native.Nat.{ℕ, ◌+◌, ◌-◌, ◌≤◌}
use mathlib.Core.List.{List}
use mathlib.Core.Path.{◌≡◌, ap, ◌∙◌}
use lib.ListN.{length, take, drop, length-drop}
use lib.Seq.{take_all}
use Rattle.script.specs.Read.{SetupRead, unread, as_setup, read_setup, rest_at, rest_of}
use Rattle.script.proofs.ReadLaws.{setup-inside}
use native.Mathlib.Omega.{arith}
use Rattle.script.proofs.read.rest.Goals as goal

within : (s : List ℕ) {r : SetupRead} → r ≡ as_setup s (read_setup s 0) → r.next ≤ length s
within s e = rw e (setup-inside s 0)

-- all that stands behind a place
behind : (s : List ℕ) (at : ℕ) → take (length s - at) (drop at s) ≡ drop at s
behind s at = take_all (length s - at) (drop at s) (rw length-drop (omega arith))

-- where the reading came to the end, and where it stopped
place : (s : List ℕ) (r : SetupRead) → r ≡ as_setup s (read_setup s 0) → r.next ≡ rest_at s
unfolding rest_at
place s r e = ap (λ (x : SetupRead). x.next) e

end : (s : List ℕ) (k : ℕ) → unread k (length s) ≡ as_setup s (read_setup s 0) → length s ≡ rest_at s
unfolding rest_at unread
end s k e = ap (λ (x : SetupRead). x.next) e

pub slice_bounds-result-count : goal.slice_bounds-result-count
slice_bounds-result-count c = within _ c.in-Ok.ensures

pub slice_bounds-result-start : goal.slice_bounds-result-start
slice_bounds-result-start c = within _ c.in-Ok.ensures

pub returns-in-Ok : goal.returns-in-Ok
unfolding rest_of
returns-in-Ok c =
    let b = c.args.bytes in
    let e = place b.now _ c.in-Ok.ensures in
    record { bytes_left = behind b.now _ ∙ ap (λ (k : ℕ). drop k b.now) e; address = λ i. (b.ref_ptr.0, e i + b.ref_ptr.1) }

pub returns-in-Err : goal.returns-in-Err
unfolding rest_of
returns-in-Err c =
    let b = c.args.bytes in
    let e = end b.now _ c.in-Err.ensures in
    record { bytes_left = behind b.now _ ∙ ap (λ (k : ℕ). drop k b.now) e; address = λ i. (b.ref_ptr.0, e i + b.ref_ptr.1) }
