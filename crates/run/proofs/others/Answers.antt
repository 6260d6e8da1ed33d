-- `run::others` answers the sound stations but i. Assumes nothing.
use mathlib.Core.Path.{◌∙◌}
use Rattle.line.specs.Run.{others}
use Rattle.run.proofs.others.Goals as goal

pub returns : goal.returns
unfolding others
returns c = c.minus.ensures ∙ rw (c.only.ensures, c.minus-sound.ensures, c.all.ensures)
