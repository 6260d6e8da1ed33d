-- `flight::seek` finds the first message of these names: it is that many before the end as there are left from it on. Assumes nothing.
use Rattle.std.proofs.Common.{◌≡◌, arith, length}
use Rattle.flight.specs.Message.{decode, unpacked}
use Rattle.flight.specs.Members.{index_of-most}
use Rattle.flight.proofs.Coding.{length-decode}
use Rattle.flight.proofs.seek.Goals as goal

pub returns-then-left-eq0 : goal.returns-then-left-eq0
returns-then-left-eq0 c =
    let a = c.args in
    let most = index_of-most (unpacked a.key) (decode a.count a.words.now) in
    let many : length (decode a.count a.words.now) ≡ a.count = length-decode a.count a.words.now in
    record { found = omega (arith, c.left_from-left.ensures, most, many); within = tt }

pub returns : goal.returns
returns c =
    let a = c.args in
    let most = index_of-most (unpacked a.key) (decode a.count a.words.now) in
    let many : length (decode a.count a.words.now) ≡ a.count = length-decode a.count a.words.now in
    record { found = omega (arith, c.left_from-left.ensures, most, many); within = omega (arith, c.left_from-left.ensures) }
