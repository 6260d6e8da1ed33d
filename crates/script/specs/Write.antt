-- Setups and events as the numbers that a script has for them.
use Rattle.std.specs.Prelude.{ℕ, List, [], ◌∷◌, ◌++◌}
use Rattle.setup.specs.declared.Plan.{Plan}
use Rattle.event.specs.declared.Event.{Event}
use Rattle.event.specs.declared.Event.TheVariants.{Advance, Deliver, Send}

-- n, f, r, T, D, A, P and the faulty mask
abbrev pub plan_numbers : Plan → List ℕ
plan_numbers s =
    s.stations ∷ s.faults ∷ s.drift ∷ s.bound ∷ s.spread ∷ s.step ∷ s.period ∷ s.faulty ∷ []

-- and n first readings
unfoldable pub setup_numbers : Plan → List ℕ → List ℕ
setup_numbers s first = plan_numbers s ++ first

-- kind 1: d and n increments; kind 2: sender, recipient, round, message kind; kind 3: sender, recipient, round, signers
unfoldable pub event_numbers : Event → List ℕ → List ℕ
event_numbers (Advance d) increments = (1 ∷ d ∷ []) ++ increments
event_numbers (Deliver sender recipient round kind) increments = (2 ∷ sender ∷ recipient ∷ round ∷ kind ∷ []) ++ []
event_numbers (Send sender recipient round signers) increments = (3 ∷ sender ∷ recipient ∷ round ∷ signers ∷ []) ++ []
