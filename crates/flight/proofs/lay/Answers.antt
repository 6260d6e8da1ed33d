-- `flight::lay` sends to each station in the mask. The loop's invariant: the words are the entry's with the messages to the stations
-- passed laid behind the others. Assumes nothing.
use Rattle.std.proofs.Common.{◌≡◌, ap, ◌∙◌, ℕ, ◌+◌, ◌++◌, length, arith}
use Rattle.flight.specs.Message.{decode, coded, sent_to}
use Rattle.flight.proofs.Sending.{turn-start, turn-length, turn-fits, turn-number, turn-done, key_fits}
use Rattle.flight.proofs.lay.Goals as goal

pub loop-k-init : goal.loop-k-init
unfolding sent_to
loop-k-init c =
    let a = c.args in
    record { number = omega arith; laid = turn-start a.words.now a.count a.m a.to c.requires.to_in_bounds }

pub overflow_add-key : goal.overflow_add-key
overflow_add-key c =
    let a = c.args in
    let h = key_fits a.m c.loop-k.k c.requires.packs (omega arith) in
    record { fits = omega (arith, c.pack-key.ensures) }

pub put_next-n-requires : goal.put_next-n-requires
put_next-n-requires c =
    let a = c.args in
    let b = c.loop-k in
    turn-fits a.words.now a.count a.m a.to c.requires.to_in_bounds
    b.k (omega arith) b.invariant.laid b.invariant.number c.pack-key.ensures c.has.ensures

pub loop-k-preserved : goal.loop-k-preserved
loop-k-preserved c =
    let a = c.args in
    let room = c.requires.to_in_bounds in
    let p = c.pack-key in
    let b = c.loop-k in
    let n = c.put_next-n.ensures in record {
      number = n.value ∙ turn-number a.words.now a.count a.m a.to room b.k (omega arith) b.invariant.laid b.invariant.number p.ensures
          c.has.ensures;
      laid = n.words_after ∙ turn-done a.words.now a.count a.m a.to room b.k (omega arith) b.invariant.laid b.invariant.number p.ensures
          c.has.ensures;
    }

pub shape_of-words : goal.shape_of-words
shape_of-words c =
    let a = c.args in
    let b = c.loop-k in
    ap length b.invariant.laid ∙ turn-length a.words.now a.count a.m a.to
    c.requires.to_in_bounds b.k (omega arith)

pub returns : goal.returns
returns c =
    let a = c.args in
    let e : c.loop-k.k ≡ 12 = omega arith in record {
      value = c.loop-k.invariant.number ∙ ap (λ (k : ℕ). a.count + length (sent_to a.m k a.to)) e;
      words_after = c.loop-k.invariant.laid ∙ ap (λ (k : ℕ). coded a.words.now (decode a.count a.words.now ++ sent_to
          a.m k a.to)) e;
    }
