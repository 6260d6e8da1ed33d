-- `number::read_number` answers `read_number`: a first byte below 128 at once, any other as `read_long` does. Assumes nothing.
use Rattle.std.proofs.Common.{◌+◌, sym, ◌∙◌, ap}
use Rattle.number.specs.Number.{Value}
use Rattle.number.proofs.Laws.{in_bytes, byte_at, number_short}
use Rattle.number.proofs.read_number.Goals as goal

pub returns-then-byte-lt128 : goal.returns-then-byte-lt128
returns-then-byte-lt128 c =
    let e = c.in-Some.ensures.lookup in
    let b = byte_at _ _ e.0 e.1 in
    ap (λ k. Value k (c.args.at + 1)) (c.from.ensures ∙ sym b) ∙ sym (number_short _ _ (in_bytes _ _ e.0) (rw b c.if-byte-lt128.true))
