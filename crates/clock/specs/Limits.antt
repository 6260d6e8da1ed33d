-- The limits of document 01, "Two kinds of time and their limits", with those of an advance and a script.
use Rattle.std.specs.Prelude.{ℕ, ◌^◌, ◌-◌}

-- stations n: 1 to this
abbrev pub max_stations : ℕ
max_stations = 12

-- drift r: 0 to this, in parts of M
abbrev pub max_drift : ℕ
max_drift = 100

-- document 01's M
abbrev pub parts : ℕ
parts = 10_000

-- delivery bound T: 1 to this
abbrev pub max_bound : ℕ
max_bound = 1_000_000

-- spread D: 1 to this
abbrev pub max_spread : ℕ
max_spread = 1_000_000

-- step A: 1 to this
abbrev pub max_step : ℕ
max_step = 10_000_000

-- period P: 1 to this
abbrev pub max_period : ℕ
max_period = 100_000_000

-- rounds up to this
abbrev pub max_round : ℕ
max_round = 1_000_000

-- real time up to this
abbrev pub max_time : ℕ
max_time = 100_000_000_000_000

-- any reading up to this
abbrev pub max_reading : ℕ
max_reading = 300_000_000_000_000

-- messages in flight: at most this
abbrev pub max_flight : ℕ
max_flight = 1_024

-- an advance's d: 1 to this
abbrev pub max_advance : ℕ
max_advance = 100_000_000

-- an advance's increment: at most this
abbrev pub max_increment : ℕ
max_increment = 200_000_000

-- a script's bytes: at most this
abbrev pub max_script : ℕ
max_script = 65_536

-- the largest number that a word holds
abbrev pub last : ℕ
last = 2 ^ 64 - 1
