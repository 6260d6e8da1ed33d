-- `flight::find` answers `near_or`: names that a word packs are found by that word, and others nowhere. Assumes nothing.
use Prim.Native.Nat.{ℕ, ◌%◌}
use mathlib.Core.Path.{◌≡◌, refl, sym, ap, ap₂, ◌∙◌}
use lib.ListN.{get_or}
use Rattle.flight.specs.declared.Names.{Names}
use Rattle.flight.specs.Message.{packed, unpacked, decode, near_or}
use Rattle.flight.proofs.Keys.{holds-true, holds-false, packs-true, true-packable, false-recipient, false-packs, unpacked-packed}
use Rattle.flight.proofs.Places.{near-unpackable}
use Rattle.flight.proofs.find.Goals as goal

pub returns-then-count-words : goal.returns-then-count-words
returns-then-count-words c =
    let e = holds-false c.args.count c.args.words.now c.if-count-words.true in
    record { found = rw e refl; within = tt }

pub returns-then-names-ge16 : goal.returns-then-names-ge16
returns-then-names-ge16 c =
    let a = c.args in
    let e = holds-true a.count a.words.now c.if-count-words.false in
    let p = false-recipient a.names c.if-names-ge16.true in
    record { found = rw e (sym (near-unpackable _ a.names a.count a.words.now (λ i. (c.type_inv.words i).fits) p)); within = tt }

pub returns-then-not-packs : goal.returns-then-not-packs
returns-then-not-packs c =
    let a = c.args in
    let e = holds-true a.count a.words.now c.if-count-words.false in
    let p = false-packs a.names (sym c.packs.ensures ∙ c.if-not-packs.true) in
    record { found = rw e (sym (near-unpackable _ a.names a.count a.words.now (λ i. (c.type_inv.words i).fits) p)); within = tt }

pub pack-key-requires : goal.pack-key-requires
pack-key-requires c = (
  c.if-names-ge16.false,
  packs-true _ _ _ (sym c.packs.ensures ∙ c.if-not-packs.false),
)

pub returns : goal.returns
returns c =
    let a = c.args in
    let l = a.words.now in
    let key = c.pack-key.result in
    let e = holds-true a.count l c.if-count-words.false in
    let p = true-packable a.names c.if-names-ge16.false (packs-true _ _ _ (sym
    c.packs.ensures ∙ c.if-not-packs.false)) in
    let k : key ≡ packed a.names = c.pack-key.ensures in
    let x : unpacked key ≡ a.names = ap unpacked k ∙ unpacked-packed a.names p in
    let w : c.word.result ≡ get_or a.places.now (packed a.names % 512) 0 =
    c.word.ensures ∙ ap (λ (n : ℕ). get_or a.places.now (n % 512) 0) k in
    record {
      found = rw e (c.seek_near.ensures.found ∙ ap₂ (λ (near : ℕ) (x : Names). near_or near x (decode a.count l)) w x);
      within = c.seek_near.ensures.within;
    }
