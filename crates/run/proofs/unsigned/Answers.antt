-- `run::unsigned` asks for the signers only where the round is the one waited for. Assumes nothing.
use mathlib.Core.Path.{refl}
use borrow.Author.Tests.{eq-eqb, ne_eqb}
use Rattle.run.proofs.unsigned.Goals as goal

pub returns-then-round-s : goal.returns-then-round-s
returns-then-round-s c = rw (ne_eqb _ _ c.if-round-s.true) refl

pub returns : goal.returns
returns c = rw (eq-eqb _ _ c.if-round-s.false) c.some_unsigned.ensures
