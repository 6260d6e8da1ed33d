-- `run::note_signed` notes the last signed rounds: after i turns those of the first i stations. Assumes nothing.
use Rattle.std.proofs.Common.{◌≡◌}
use Rattle.run.specs.Hearing.{signed_to}
use Rattle.run.proofs.note_signed.Given as goal

abbrev pub invariant-loop-i : goal.invariant-loop-i
invariant-loop-i l = l.signed ≡ signed_to l.l l.initial.signed l.i
