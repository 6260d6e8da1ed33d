-- `paper::read_full`: what a read puts stands behind what was put before, and the input's bytes go on behind it.
use Rattle.std.proofs.Common.{◌≡◌, ◌+◌, ◌-◌, ◌≤◌, ℕ, List, ◌++◌, length, take, ap, sym, ◌∙◌, subst, arith}
use Rattle.std.proofs.Math.Seq.{length-take-le, take-append-add}
use Rattle.std.proofs.lemmas.List.{take-append-le, length-append}
use Rattle.std.proofs.KnownBytes.{Consumes-trans}
use Rattle.std.specs.Io.KnownBytes.{Consumes}
use borrow.Rule.Slice.PartMut.{put_mid, post_of}
use Rattle.paper.proofs.read_full.Goals as goal

-- the bytes up to the n-th of a part that was written from the a-th on
filled : (a k n : ℕ) (xs ys : List ℕ) → a ≤ length xs → n ≤ length ys → take (a + n) (put_mid a k xs ys) ≡ take a xs ++ take n ys
filled a k n xs ys h m =
    ap (λ (i : ℕ). take (i + n) (put_mid a k xs ys)) (sym (length-take-le a xs h))
    ∙ take-append-add (take a xs) (ys ++ post_of a k xs) n ∙ ap (λ (l : List ℕ). take a xs ++ l) (take-append-le n ys (post_of a k xs) m)

-- which the whole has room for
room : (a k n : ℕ) (xs ys : List ℕ) → a ≤ length xs → n ≤ length ys → a + n ≤ length (put_mid a k xs ys)
room a k n xs ys h m =
    let post = post_of a k xs in
    omega (arith, length-append (take a xs) (ys ++ post), length-append ys post, length-take-le a xs h)

pub loop-done-preserved : goal.loop-done-preserved
loop-done-preserved g c =
    let b = c.loop-done in
    let got = c.in_ok-got in (
      room b.done (length b.buffer - b.done) got.got b.buffer c.read.new.buf b.invariant.0 got.ensures.bound.0,
      subst (Consumes (g.R.Read.remaining c.args.input.now) (g.R.Read.remaining c.read.new.self))
          (sym (filled b.done (length b.buffer - b.done) got.got b.buffer c.read.new.buf b.invariant.0 got.ensures.bound.0))
          (Consumes-trans _ _ _ _ _ b.invariant.1 got.ensures.bytes.0),
    )
