-- `notes::search` answers whether a time noted is before the limit. Each loop's invariant: no time at a place passed is.
-- Assumes nothing.
use Rattle.std.proofs.Common.{sym, ◌∙◌, ◌+◌, ◌*◌, ◌≤◌, get_or, below_more, arith}
use Rattle.flight.specs.Members.{all_of}
use Rattle.notes.specs.Notes.{before_at, before-none}
use Rattle.notes.proofs.search.Goals as goal

pub loop-recipient-init : goal.loop-recipient-init
loop-recipient-init c = record { none = c.search.invariant.none; past = λ p h. c.search.invariant.past p (omega arith) }

pub loop-recipient-preserved : goal.loop-recipient-preserved
loop-recipient-preserved c =
    let a = c.args in
    let b = c.loop-recipient in
    let at = c.search.sender * 16 + b.recipient in record {
      none = b.invariant.none;
      past = λ p h. below_more (λ q. a.limit ≤ get_or a.oldest.now q 0) at b.invariant.past c.if-oldest-sender.false p (omega arith);
    }

pub search-preserved : goal.search-preserved
search-preserved c = record { none = c.loop-recipient.invariant.none; past = λ p h. c.loop-recipient.invariant.past p (omega arith) }

pub returns-after-search : goal.returns-after-search
returns-after-search c =
    let l = c.args.oldest.now in
    c.search.invariant.none
    ∙ sym (before-none c.args.limit (all_of l 0 (λ p h. c.search.invariant.past p (omega arith))))

pub returns-then-oldest-sender : goal.returns-then-oldest-sender
returns-then-oldest-sender c =
    let a = c.args in
    let at = c.search.sender * 16 + c.loop-recipient.recipient in
    sym (before_at a.limit a.oldest.now at (omega arith) c.if-oldest-sender.true)
