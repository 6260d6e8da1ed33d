-- `run::tell` sends a ready and a relay, each to a mask: after both the words hold what the station sends behind the others.
-- Assumes nothing.
use Rattle.std.proofs.Common.{◌≡◌, ap, sym, ◌∙◌, ℕ, rules}
use Rattle.flight.specs.Message.{answer_of}
use Rattle.flight.proofs.Sending.{count-answer_of}
use Rattle.run.specs.Sends.{sends_none, both-sends}
use Rattle.run.proofs.tell.Goals as goal

pub returns-then-quiet : goal.returns-then-quiet
returns-then-quiet c =
    let a = c.args in
    let none = sends_none a.rest.plan a.rest.time.0 a.i a.round a.o a.words.now a.rest.count c.requires (sym c.quiet.ensures ∙ c.if-quiet.true) in
    record { value = none.0; words_after = none.1 }

pub returns : goal.returns
returns c =
    let a = c.args in
    let behind : c.unwrap_or-behind.result ≡ (answer_of a.rest.count c.send.result).count =
    c.unwrap_or-behind.ensures ∙ sym (count-answer_of a.rest.count c.send.result) in
    let both =
    both-sends a.rest.plan a.rest.time.0 a.i a.round a.o a.words.now a.rest.count c.requires (λ j. search rules) (search rules) _ _ _ _ _ _ _
    (c.part.ensures ∙ rw c.others-to.ensures) (c.part-2.ensures ∙ rw c.others-to.ensures) c.send.ensures.value c.send.ensures.words_after
    (rw behind at c.send-2.ensures.value) (rw behind at c.send-2.ensures.words_after) (rw c.only.ensures) in
    record {
      value = c.unwrap_or.ensures ∙ sym (count-answer_of c.unwrap_or-behind.result c.send-2.result) ∙ ap (λ (n : ℕ). (answer_of n c.send-2.result).count) behind ∙ both.0;
      words_after = both.1;
    }
