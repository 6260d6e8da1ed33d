-- `writer::width` adds up the lengths: each is at most 10, so that no sum wraps. Assumes nothing.
use Rattle.std.proofs.Common.{ℕ, ◌+◌, ◌<◌, List, ◌≡◌, add-one, arith, length, take, get_or, length-append}
use Rattle.number.specs.Number.{number_bytes, bytes_of}
use Rattle.number.proofs.Laws.{number-length}
use Rattle.writer.specs.Laws.{bytes-more}
use Rattle.writer.proofs.width.Goals as goal

turn : (vs : List ℕ) (i : ℕ) {sum count : ℕ} → sum ≡ length (bytes_of (take i vs))
    → count ≡ length (number_bytes (get_or vs i 0)) → i < length vs → sum + count ≡ length (bytes_of (take (i + 1) vs))
turn vs i e g h = rw (add-one, bytes-more vs i h, length-append) (omega arith)

pub overflow_add-sum : goal.overflow_add-sum
overflow_add-sum c = omega (arith, c.size-sum.ensures, number-length (get_or c.args.numbers.now c.loop-v.v-index 0))

pub loop-v-preserved : goal.loop-v-preserved
loop-v-preserved c = (
  omega (arith, c.size-sum.ensures, number-length (get_or c.args.numbers.now c.loop-v.v-index 0)),
  turn c.args.numbers.now c.loop-v.v-index c.loop-v.invariant.1 c.size-sum.ensures (omega arith),
)
