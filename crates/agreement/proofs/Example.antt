-- The runs of the example agree.
use Rattle.agreement.specs.Statement.{Agreement}
use Rattle.agreement.specs.Example.{plan, first, events, steady, steady-first, steady-events, reached}
use Rattle.agreement.proofs.Theorem.{agreement}

-- and demand 3 holds of them
pub base_agrees : Agreement plan first events
base_agrees = agreement plan first events reached.0.setup

pub steady-agrees : Agreement steady steady-first steady-events
steady-agrees = agreement steady steady-first steady-events reached.1.setup
