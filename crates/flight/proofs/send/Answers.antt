-- `flight::send` sends to all or to none: the messages sent are as many as the mask's lowest twelve bits. Assumes nothing.
use mathlib.Core.List.{◌++◌}
use mathlib.Core.Path.{◌≡◌, refl, sym, ◌∙◌}
use native.Mathlib.Omega.{arith}
use lib.ListN.{length, length-append}
use Rattle.flight.specs.Message.{decode, sent_to}
use Rattle.flight.proofs.Coding.{length-decode}
use Rattle.flight.proofs.Keys.{packs-true}
use Rattle.flight.proofs.Sending.{count-few, count-sent, send-unpackable, send-no-room, send-too-many, send-can}
use Rattle.flight.proofs.send.Goals as goal

pub returns-then-not-packs : goal.returns-then-not-packs
returns-then-not-packs c =
    let a = c.args in
    let e = send-unpackable a.count a.words.now a.m 12 a.to (sym c.packs.ensures ∙ c.if-not-packs.true) in
    record { value = rw e refl; words_after = rw e refl }

pub returns-then-count-words : goal.returns-then-count-words
returns-then-count-words c =
    let a = c.args in
    let e = send-no-room a.count a.words.now a.m 12 a.to c.if-count-words.true in
    record { value = rw e refl; words_after = rw e refl }

pub overflow_add-count : goal.overflow_add-count
overflow_add-count c = omega (arith, c.count.ensures, count-few c.args.to)

pub returns-then-count-words-2 : goal.returns-then-count-words-2
returns-then-count-words-2 c =
    let a = c.args in
    let p = sym c.packs.ensures ∙ c.if-not-packs.false in
    let e = send-too-many a.count a.words.now a.m a.to c.count.result p
    c.count.ensures c.if-count-words-2.true in
    record { value = rw e refl; words_after = rw e refl }

pub lay-requires : goal.lay-requires
lay-requires c =
    let p = packs-true _ _ _ (sym c.packs.ensures ∙ c.if-not-packs.false) in record {
      packs = p;
      to_in_bounds = omega (
        arith,
        c.count.ensures,
        count-sent
            c.args.m
            c.args.to,
      );
    }

pub returns : goal.returns
returns c =
    let a = c.args in
    let l = a.words.now in
    let p = sym c.packs.ensures ∙ c.if-not-packs.false in
    let e = send-can a.count l a.m a.to c.count.result p
    c.count.ensures
    c.if-count-words-2.false in
    let n : length (decode a.count l ++ sent_to a.m 12 a.to) ≡ c.lay.result =
    length-append (decode a.count l) (sent_to a.m 12 a.to) ∙ omega (
      arith,
      length-decode a.count l,
      c.lay.ensures.value,
    ) in
    record { value = rw (e, n) refl; words_after = rw e c.lay.ensures.words_after }
