-- Rule 11 of document 01, "Numbers a caller gets back", over a setup's n and faulty mask.
use Rattle.std.specs.Prelude.{ℕ, Bool, ◌&&◌, ◌||◌, not, List, ltb, leb, eqb, length}
use Rattle.clock.specs.Limits.{max_advance, max_increment, max_round}
use Rattle.mask.specs.Mask.{has, below}
use Rattle.clock.specs.Tests.{outside, some_to}
use Rattle.clock.specs.Pick.{pick}
use Rattle.event.specs.declared.Event.{Event}
use Rattle.event.specs.declared.Event.TheVariants.{Advance, Deliver, Send}

-- an increment over 200,000,000 or nonzero for a faulty station
unfoldable pub bad_increment : ℕ → ℕ → ℕ → Bool
bad_increment faulty i x = ltb max_increment x || (has faulty i && not (eqb x 0))

-- d outside 1 to 100,000,000; not n increments; an increment that is barred
unfoldable pub bad_advance : ℕ → ℕ → ℕ → List ℕ → Bool
bad_advance n faulty d increments =
    outside 1 max_advance d || not (eqb (length increments) n) || some_to (bad_increment faulty) increments (length increments)

-- a station at n or above; sender equals recipient; faulty recipient; round outside 1 to 1,000,000
unfoldable pub bad_ends : ℕ → ℕ → ℕ → ℕ → ℕ → Bool
bad_ends n faulty sender recipient round =
    leb n sender || leb n recipient || eqb sender recipient || has faulty recipient || outside 1 max_round round

-- and a message's kind above 1
abbrev pub bad_deliver : ℕ → ℕ → ℕ → ℕ → ℕ → ℕ → Bool
bad_deliver n faulty sender recipient round kind = bad_ends n faulty sender recipient round || ltb 1 kind

-- and an empty mask or one with a bit at n or above
abbrev pub bad_send : ℕ → ℕ → ℕ → ℕ → ℕ → ℕ → Bool
bad_send n faulty sender recipient round signers = bad_ends n faulty sender recipient round || eqb signers 0 || not (below signers n)

unfoldable pub barred : ℕ → ℕ → Event → List ℕ → Bool
barred n faulty (Advance d) increments = bad_advance n faulty d increments
barred n faulty (Deliver sender recipient round kind) increments = bad_deliver n faulty sender recipient round kind
barred n faulty (Send sender recipient round signers) increments = bad_send n faulty sender recipient round signers

-- the station that hears an event: a message's recipient; n, which is none, for an advance and where 11 bars the message
unfoldable pub hearer : ℕ → ℕ → Event → ℕ
hearer n faulty (Advance d) = n
hearer n faulty (Deliver sender recipient round kind) = pick (bad_deliver n faulty sender recipient round kind) n recipient
hearer n faulty (Send sender recipient round signers) = pick (bad_send n faulty sender recipient round signers) n recipient
