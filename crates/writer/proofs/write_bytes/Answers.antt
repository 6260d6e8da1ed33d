-- `writer::write_bytes` lays the bytes where there is room for them, and else answers 25 and writes nothing. Assumes nothing.
use Rattle.std.proofs.Common.{◌∙◌, arith}
use Rattle.writer.specs.Laws.{short, long}
use Rattle.writer.proofs.write_bytes.Goals as goal

pub returns-then-space-at : goal.returns-then-space-at
returns-then-space-at c =
    record { value = (short _ _ _ (omega arith)).0; out_after = (short _ _ _ (omega arith)).1 }

pub returns-then-space-at-2 : goal.returns-then-space-at-2
returns-then-space-at-2 c =
    record { value = (short _ _ _ (omega arith)).0; out_after = (short _ _ _ (omega arith)).1 }

pub returns : goal.returns
returns c =
    let a = c.args in
    let l = long a.out.now a.at a.bytes.now (omega arith) in
    record { value = l.0; out_after = c.copy.ensures ∙ l.1 }
