-- `run::hear` comes to what the deliver or the faulty send comes to; no station hears an advance. Assumes nothing.
use mathlib.Core.Path.{subst}
use Prim.Native.Nat.{ℕ}
use Rattle.run.specs.Hearing.{Stands, recipient-deliver, recipient-send, recipient-advance, hears-deliver, hears-send}
use Rattle.run.proofs.hear.Goals as goal

pub deliver-requires : goal.deliver-requires
deliver-requires c =
    let a = c.args in
    subst (λ (i : ℕ). Stands a.rest.plan a.rest.time a.rest.count i a.s a.words.now) (recipient-deliver a.rest.plan.stations a.event _ c.in-Deliver.is) c.requires.stands

pub send-requires : goal.send-requires
send-requires c =
    let a = c.args in
    record { stands = subst (λ (i : ℕ). Stands a.rest.plan a.rest.time a.rest.count i a.s a.words.now) (recipient-send a.rest.plan.stations a.event _ _ _ _ c.in-Send.is) c.requires.stands; signed_len = c.requires.signed_len }

pub returns-in-Advance : goal.returns-in-Advance
returns-in-Advance c = absurd (recipient-advance _ _ _ c.in-Advance.is c.requires.stands.lies.low)

pub returns-in-Deliver : goal.returns-in-Deliver
returns-in-Deliver c = hears-deliver _ _ _ _ _ _ _ _ _ _ c.in-Deliver.is c.deliver.ensures

pub returns-in-Send : goal.returns-in-Send
returns-in-Send c = hears-send _ _ _ _ _ _ _ _ _ _ _ _ _ c.in-Send.is c.send.ensures
