-- `notes::search` answers whether a time noted is before the limit. Each loop's invariant: no time at a place passed is.
-- Assumes nothing.
use Rattle.std.proofs.Common.{◌≡◌, ℕ, ◌+◌, ◌*◌, ◌≤◌, ◌<◌, false, get_or}
use Rattle.notes.proofs.search.Given as goal

abbrev pub invariant-loop-recipient : goal.invariant-loop-recipient
invariant-loop-recipient l = record {
  none : l.found ≡ false;
  past : (p : ℕ) → p < l.sender * 16 + l.recipient → l.limit ≤ get_or l.oldest p 0;
}

abbrev pub invariant-search : goal.invariant-search
invariant-search l = record {
  none : l.found ≡ false;
  past : (p : ℕ) → p < l.sender * 16 → l.limit ≤ get_or l.oldest p 0;
}
