-- `text::put_byte` lays one byte. Assumes nothing.
use Rattle.text.proofs.Laws.{laid_one}
use Rattle.text.proofs.put_byte.Goals as goal

pub returns-clause-out_after : goal.returns-clause-out_after
returns-clause-out_after c = laid_one _ _ _ c.requires
