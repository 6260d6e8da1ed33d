-- `run::count_sent` answers `sent_by`: so many others for a ready, and so many for a relay. Assumes nothing.
use mathlib.Core.Bool.{not}
use mathlib.Core.Path.{sym, ◌∙◌}
use lib.Dec.{eqb}
use Prim.Native.Nat.{◌≤◌}
use native.Mathlib.Omega.{arith}
use Rattle.flight.proofs.Sending.{count-few}
use Rattle.run.specs.Sends.{sent_by, part-most, sent-quiet}
use Rattle.run.proofs.count_sent.Goals as goal

pub returns-then-quiet : goal.returns-then-quiet
returns-then-quiet c = sent-quiet _ _ _ (sym c.quiet.ensures ∙ c.if-quiet.true)

pub overflow_add-result : goal.overflow_add-result
overflow_add-result c =
    let few = count-few c.others.result in
    let one : c.part.result ≤ c.count-many.result = part-most c.args.o.ready _ _ c.part.ensures in
    let two : c.part-2.result ≤ c.count-many.result = part-most (not (eqb c.args.o.relay 0)) _ _ c.part-2.ensures in
    omega (arith, c.count-many.ensures)

pub returns : goal.returns
unfolding sent_by
returns c =
    rw (c.part.ensures, c.part-2.ensures, c.count-many.ensures, c.others.ensures)
