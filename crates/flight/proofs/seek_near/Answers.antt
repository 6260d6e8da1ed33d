-- `flight::seek_near` answers `near_or`: equal words are equal names. Assumes nothing.
use mathlib.Core.Path.{sym, ◌∙◌}
use native.Mathlib.Omega.{arith}
use Rattle.flight.specs.Message.{unpacked, decode}
use Rattle.flight.proofs.Coding.{length-decode}
use Rattle.flight.proofs.Places.{near-past, near-key, near-other-key}
use Rattle.flight.proofs.seek_near.Goals as goal

pub returns-then-near-count : goal.returns-then-near-count
returns-then-near-count c =
    let a = c.args in
    let l = a.words.now in
    record { found = c.seek.ensures.found ∙ sym (near-past a.near (unpacked a.key) (decode a.count l) (omega (arith, length-decode a.count l, c.if-near-count.true))); within = c.seek.ensures.within }

pub returns-then-words-near : goal.returns-then-words-near
returns-then-words-near c =
    let a = c.args in
    record { found = sym (near-key a.key a.count a.words.now a.near c.if-near-count.false c.if-words-near.true); within = c.if-near-count.false }

pub returns : goal.returns
returns c =
    let a = c.args in
    record {
      found = c.seek-2.ensures.found ∙ sym (near-other-key a.key a.count a.words.now a.near c.if-near-count.false c.if-words-near.false);
      within = c.seek-2.ensures.within;
    }
