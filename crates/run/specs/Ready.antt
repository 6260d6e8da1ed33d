-- What a part of a script is played with: a valid record, and what is kept beside it.
use Rattle.std.specs.Prelude.{ℕ, ◌≤◌, false, List, [], ◌≡◌, length, take}
use Rattle.line.specs.declared.Line.{Line}
use Rattle.line.specs.Held.{run_of, bad_line}
use Rattle.text.specs.Text.{event_end}
use Rattle.run.specs.Hearing.{Noted}

-- the last signed rounds of its stations, and the end of its line
pub record Beside (n : ℕ) (l : Line) (signed end : List ℕ) (long : ℕ) : Type 0 where
  pub stations : n ≡ l.plan.stations
  pub noted : Noted l signed
  pub twelve : length signed ≡ 12
  pub room : length end ≡ 320
  pub fits : long ≤ 320
  pub ends : take long end ≡ event_end (run_of l [])

-- what a valid record is played with
pub record Ready (l : Line) (words signed end : List ℕ) (long : ℕ) : Type 0 where
  pub good : bad_line l words ≡ false
  pub twelve : length l.stations ≡ 12
  pub beside : Beside l.plan.stations l signed end long
