-- `writer::write_numbers` writes two rows where there is room for both, and else answers 25 and writes nothing. Assumes
-- nothing.
use Prim.Native.Nat.{ℕ, ◌+◌}
use mathlib.Core.List.{List, ◌++◌}
use mathlib.Core.Path.{◌≡◌, ap, ap₂, ◌∙◌}
use lib.ListN.{length}
use Rattle.number.specs.Number.{bytes_of, laid}
use Rattle.number.proofs.Laws.{rows-length}
use Rattle.writer.specs.Laws.{rows-laid, short, long}
use Rattle.writer.specs.Write.{Bytes}
use native.Mathlib.Omega.{arith}
use Rattle.writer.proofs.write_numbers.Goals as goal

pub returns-then-space-at : goal.returns-then-space-at
returns-then-space-at c =
    record { value = (short _ _ _ (omega arith)).0; out_after = (short _ _ _ (omega arith)).1 }

pub returns-then-space-at-2 : goal.returns-then-space-at-2
returns-then-space-at-2 c =
    record {
      value = (short _ _ _ (omega (
        arith,
        rows-length c.args.head.now c.args.tail.now,
      ))).0;
      out_after = (short _ _ _ (omega (
        arith,
        rows-length c.args.head.now c.args.tail.now,
      ))).1;
    }

pub returns-then-space-at-3 : goal.returns-then-space-at-3
returns-then-space-at-3 c =
    record {
      value = (short _ _ _ (omega (
        arith,
        rows-length c.args.head.now c.args.tail.now,
      ))).0;
      out_after = (short _ _ _ (omega (
        arith,
        rows-length c.args.head.now c.args.tail.now,
      ))).1;
    }

pub returns : goal.returns
returns c =
    let a =
    c.args in
    let rows = rows-length a.head.now a.tail.now in
    let l = long a.out.now a.at (bytes_of (a.head.now ++ a.tail.now)) (omega arith) in
    let sum : c.width-first.result + c.width-second.result ≡ length
    (bytes_of (a.head.now ++ a.tail.now)) = omega arith in record {
      value = ap Bytes sum ∙ l.0;
      out_after = c.put_numbers.ensures.out_after
          ∙ ap₂ (λ (o : List ℕ) (k : ℕ). laid o k (bytes_of a.tail.now))
          c.put_numbers-next.ensures.out_after
          c.put_numbers-next.ensures.value
          ∙ rows-laid a.out.now a.at a.head.now a.tail.now (omega arith)
          ∙ l.1;
    }
