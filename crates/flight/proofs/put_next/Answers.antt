-- `flight::put_next` stores three words where it is told to. Assumes nothing.
use mathlib.Core.Path.{refl}
use native.Mathlib.Omega.{arith}
use Rattle.flight.proofs.put_next.Goals as goal

pub overflow_mul-n : goal.overflow_mul-n
overflow_mul-n c = let h = c.requires c.if-go.true in omega arith

pub put-requires : goal.put-requires
put-requires c = let h = c.requires c.if-go.true in omega arith

pub overflow_add-result : goal.overflow_add-result
overflow_add-result c = let h = c.requires
    c.if-go.true in omega arith

pub returns-then-go : goal.returns-then-go
returns-then-go c = let e = c.if-go.true in record { value = rw e refl; words_after = rw e c.put.ensures }
