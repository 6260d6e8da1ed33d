-- `text::put_word` lays the bytes where there is room for them. Assumes nothing.
use Rattle.std.proofs.Common.{refl, sym, ◌∙◌}
use Rattle.writer.specs.Laws.{long}
use Rattle.text.proofs.put_word.Goals as goal

pub returns : goal.returns
returns c =
    let a = c.args in
    record { value = refl; out_after = c.write_bytes.ensures.out_after ∙ sym (long a.out.now a.at a.word.now c.requires).1 }
