-- The lines that a rehearsal prints, document 01, "One rehearsal in full", as bytes.
use Rattle.std.specs.Prelude.{ℕ, zero, suc, ◌+◌, ◌/◌, ◌%◌, ◌^◌, Bool, ◌&&◌, List, [], ◌∷◌, ◌++◌, ltb, leb, length}
use Rattle.clock.specs.Pick.{pick}
use Rattle.mask.specs.Mask.{has}
use Rattle.number.specs.Number.{laid}
use Rattle.line.specs.declared.Line.{Line}
use Rattle.line.specs.Run.{Run, station_at}

-- ---- numbers

-- how many decimal digits a number has, at most so many after the first: one below ten, else one more than its tenth
unfoldable pub places_from : ℕ → ℕ → ℕ
places_from zero x = 1
places_from (suc left) x = pick (ltb x 10) 1 (places_from left (x / 10) + 1)

unfoldable pub places : ℕ → ℕ
places x = places_from 19 x

-- its last k digits
unfoldable pub last_digits : ℕ → ℕ → List ℕ
last_digits zero x = []
last_digits (suc k) x = (48 + x / 10 ^ k % 10) ∷ last_digits k x

-- all of them
unfoldable pub decimal : ℕ → List ℕ
decimal x = last_digits (places x) x

-- one byte
abbrev pub single : ℕ → List ℕ
single byte = byte ∷ []

-- ---- lines

-- a space and a number
unfoldable pub spaced : ℕ → List ℕ
spaced x = 32 ∷ decimal x

-- a space and the round of a station, `-` if it is faulty
unfoldable pub round_of : Run → ℕ → List ℕ
round_of r i = pick (has r.plan.faulty i) (32 ∷ 45 ∷ []) (spaced (station_at r i).round)

-- a space and a round, `-` where the mask has its station
abbrev pub shown_round : ℕ → ℕ → ℕ → List ℕ
shown_round faulty i round = pick (has faulty i) (32 ∷ 45 ∷ []) (spaced round)

-- of the first k stations
unfoldable pub rounds_to : Run → ℕ → List ℕ
rounds_to r zero = []
rounds_to r (suc k) = rounds_to r k ++ round_of r k

-- the end of an event's line: real time and the round of each station
unfoldable pub event_end : Run → List ℕ
event_end r = spaced r.time ++ rounds_to r r.plan.stations ++ single 10

-- event number, answer and an end
unfoldable pub line_with : ℕ → ℕ → List ℕ → List ℕ
line_with number answer end = decimal number ++ spaced answer ++ end

-- event number, answer, real time and the round of each station, single spaces between
unfoldable pub event_line : ℕ → ℕ → Run → List ℕ
event_line number answer r = line_with number answer (event_end r)

-- a word and a number
unfoldable pub told : List ℕ → ℕ → List ℕ
told word number = word ++ spaced number ++ single 10

-- `setup` and its answer
unfoldable pub setup_line : ℕ → List ℕ
setup_line answer = told (115 ∷ 101 ∷ 116 ∷ 117 ∷ 112 ∷ []) answer

-- `script` and the number
unfoldable pub script_line : ℕ → List ℕ
script_line number = told (115 ∷ 99 ∷ 114 ∷ 105 ∷ 112 ∷ 116 ∷ []) number

-- ---- in a buffer

-- the buffer has room for the longest line from this place on
unfoldable pub roomy : List ℕ → ℕ → Bool
roomy out at = leb (at + 320) (length out)

-- and the run has at most twelve stations
unfoldable pub fits : Line → List ℕ → ℕ → Bool
fits l out at = leb l.plan.stations 12 && roomy out at

-- and the end of its line is no longer than any: with a number and an answer of twenty digits it has room
unfoldable pub fits_end : List ℕ → List ℕ → ℕ → Bool
fits_end end out at = leb (length end) 278 && roomy out at

-- the buffer with the bytes laid into it, where it has room
abbrev pub printed : Bool → List ℕ → ℕ → List ℕ → List ℕ
printed ok out at bytes = pick ok (laid out at bytes) out

-- and the place behind them
abbrev pub behind : Bool → ℕ → List ℕ → ℕ
behind ok at bytes = pick ok (at + length bytes) at
