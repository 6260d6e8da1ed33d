-- `flight::lay` sends to each station in the mask. The loop's invariant: the words are the entry's with the messages to the stations
-- passed laid behind the others. Assumes nothing.
use Rattle.std.proofs.Common.{◌≡◌, ◌+◌, ◌++◌, length}
use Rattle.flight.specs.Message.{decode, coded, sent_to}
use Rattle.flight.proofs.lay.Given as goal

abbrev pub invariant-loop-k : goal.invariant-loop-k
invariant-loop-k l = record {
  number : l.n ≡ l.count + length (sent_to l.m l.k l.to);
  laid : l.words ≡ coded l.initial.words (decode l.count l.initial.words ++ sent_to l.m l.k l.to);
}
