-- The record rules of a run, answer 10 of document 01.
use Rattle.std.specs.Prelude.{ℕ, zero, suc, Bool, false, ◌||◌, not, ltb, eqb, length}
use Rattle.clock.specs.Limits.{max_time, max_round, max_flight}
use Rattle.clock.specs.Pick.{pick}
use Rattle.clock.specs.Tests.{outside}
use Rattle.mask.specs.Mask.{has, below}
use Rattle.setup.specs.declared.Plan.{Plan}
use Rattle.setup.specs.Setup.{plan_answer}
use Rattle.station.specs.declared.Station.{Station}
use Rattle.station.specs.Record.{bad_station}
use Rattle.flight.specs.declared.Message.{Message}
use Rattle.flight.specs.Message.{some_of, twins}
use Rattle.model.specs.Run.{Run, sound, station_at}

-- one of a faulty station's fields is not zero
unfoldable pub bad_faulty : Station → Bool
bad_faulty s =
    not (eqb s.round 0) || not (eqb s.reading.0 0) || not (eqb s.signed 0) || not (eqb s.gathered 0)

-- station i's record breaks its rules
unfoldable pub bad_station_at : Run → ℕ → Bool
bad_station_at r i = pick (has r.plan.faulty i) (bad_faulty (station_at r i)) (bad_station r.plan (station_at r i))

-- some of the first k stations has p, which is asked of its number
unfoldable pub some_station : (ℕ → Bool) → ℕ → Bool
some_station p zero = false
some_station p (suc k) = some_station p k || p k

-- a round from 1 to 1,000,000, kind 0 or 1, a non-empty mask with no bit at n or above
unfoldable pub bad_content : Plan → Message → Bool
bad_content plan m =
    outside 1 max_round m.round || ltb 1 m.kind || eqb m.signers 0 || not (below m.signers plan.stations)

-- two different sound ends, and a sent time not after the present
unfoldable pub bad_way : Run → Message → Bool
bad_way r m =
    not (sound r.plan m.sender) || not (sound r.plan m.recipient) || eqb m.sender m.recipient
    || ltb r.time m.sent.0

-- a ready's round is at most its sender's last signed, a relay's at most its sender's own
unfoldable pub bad_round : Run → Message → Bool
bad_round r m =
    ltb (pick (eqb m.kind 0) (station_at r m.sender).signed (station_at r m.sender).round) m.round

-- a message in flight breaks a rule
unfoldable pub bad_message : Run → Message → Bool
bad_message r m = bad_content r.plan m || bad_way r m || bad_round r m

-- 10: a table without exactly n stations, or a record that breaks a limit, a setup rule 1 to 7 or the record rules
unfoldable pub bad_record : Run → Bool
bad_record r =
    not (eqb (plan_answer r.plan) 0)
    || not (eqb (length r.stations) r.plan.stations)
    || ltb max_time r.time
    || some_station (bad_station_at r) r.plan.stations
    || ltb max_flight (length r.flight)
    || some_of (bad_message r) r.flight
    || twins r.flight
