-- `text::roomy` compares the place with where the last line could begin. Assumes nothing.
use Rattle.std.proofs.Common.{arith, ◌∙◌}
use Rattle.std.proofs.lemmas.Bool.{lt-leb}
use Rattle.text.proofs.Room.{roomy-not, roomy-is}
use Rattle.text.proofs.roomy.Goals as goal

pub returns-then-out-ge-LONGEST : goal.returns-then-out-ge-LONGEST
returns-then-out-ge-LONGEST c = roomy-is _ _ (omega arith)

pub returns-else-out-ge-LONGEST : goal.returns-else-out-ge-LONGEST
returns-else-out-ge-LONGEST c =
    let few = c.if-out-ge-LONGEST.false in
    lt-leb 320 _ (omega arith) ∙ roomy-not _ _ (omega arith)
