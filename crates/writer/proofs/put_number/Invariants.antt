-- The loop of `writer::put_number`: what lies there, with the groups of the rest behind it, is the number's bytes. The rest falls,
-- and is its own measure.
use Rattle.writer.specs.Laws.{Putting}
use Rattle.writer.proofs.put_number.Given as goal

abbrev pub invariant-loop-rest : goal.invariant-loop-rest
invariant-loop-rest l = Putting l.v l.initial.out l.at l.out l.place l.rest

abbrev pub decreases-loop-rest : goal.decreases-loop-rest
decreases-loop-rest l = l.rest
