-- `writer::write_number` writes a row of one number. Assumes nothing.
use Rattle.std.proofs.Common.{ap, ◌∙◌, append-nil}
use Rattle.number.specs.Number.{number_bytes, bytes_of}
use Rattle.writer.specs.Write.{wrote, buffer}
use Rattle.writer.proofs.write_number.Goals as goal

pub returns : goal.returns
unfolding bytes_of
returns c =
    let a = c.args in
    let one = append-nil (number_bytes a.v) in
    let w = c.write_numbers.ensures in
    record { value = w.value ∙ ap (wrote a.out.now a.at) one; out_after = w.out_after ∙ ap (buffer a.out.now a.at) one }
