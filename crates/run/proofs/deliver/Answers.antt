-- `run::deliver` comes to the deliver's table and effect: 16, then 19, else the message leaves the flight, its recipient takes its
-- new place and what it sends follows. Assumes nothing.
use Rattle.std.proofs.Common.{◌+◌, refl, arith, rules}
use Rattle.run.specs.Sends.{Room, sent-few}
use Rattle.run.specs.Hearing.{stands-found, lies-limits}
use Rattle.run.proofs.Hearing.{does-none, does-below, does-full, does-room, does-comes}
use Rattle.run.proofs.deliver.Goals as goal
use Rattle.run.proofs.deliver.Goals.{After-take_out-left}

pub returns-in_default : goal.returns-in_default
returns-in_default c =
    let a = c.args in
    does-none a.rest.plan a.rest.time a.rest.count a.s a.words.now a.names _ (stands-found c.requires _ _ c.in_default.ensures.found) refl

pub overflow_sub-rest : goal.overflow_sub-rest
overflow_sub-rest c =
    let a = c.args in
    omega (arith, does-below a.rest.plan a.rest.time a.rest.count a.s a.words.now a.names _ (stands-found c.requires _ _ c.in-Some.ensures.found) (λ e. omega (arith, c.in-Some.ensures.within, e)) _ c.message_at-m.ensures _ c.heard-o.ensures c.requires)

pub overflow_add-rest : goal.overflow_add-rest
overflow_add-rest c =
    let a = c.args in
    omega (arith, c.count_sent.ensures, sent-few a.rest.plan a.names.recipient c.heard-o.result, (lies-limits c.requires.lies).3)

pub returns-then-rest-count_sent-gt-MAX_FLIGHT : goal.returns-then-rest-count_sent-gt-MAX_FLIGHT
returns-then-rest-count_sent-gt-MAX_FLIGHT c =
    let a = c.args in
    does-full a.rest.plan a.rest.time a.rest.count a.s a.words.now a.names _ (stands-found c.requires _ _ c.in-Some.ensures.found) (λ e. omega (arith, c.in-Some.ensures.within, e)) _ c.message_at-m.ensures _ c.heard-o.ensures (omega arith)

pub take_out-left-requires : goal.take_out-left-requires
take_out-left-requires c =
    let a = c.args in
    omega (arith, does-below a.rest.plan a.rest.time a.rest.count a.s a.words.now a.names _ (stands-found c.requires _ _ c.in-Some.ensures.found) (λ e. omega (arith, c.in-Some.ensures.within, e)) _ c.message_at-m.ensures _ c.heard-o.ensures c.requires, (lies-limits c.requires.lies).3)

-- there is room for what its recipient sends
room : (c : After-take_out-left) → Room c.take_out-left.new.words c.take_out-left.result c.args.rest.plan c.args.rest.time.0 c.args.names.recipient (c.args.s.round + 1) c.heard-o.result
room c =
    let a = c.args in
    let limits = lies-limits c.requires.lies in
    record {
      place = limits.0;
      low = limits.1;
      fits = limits.2;
      room = does-room a.rest.plan a.rest.time a.rest.count a.s a.words.now a.names _ (stands-found c.requires _ _ c.in-Some.ensures.found) (λ e. omega (arith, c.in-Some.ensures.within, e)) _ c.message_at-m.ensures _ c.heard-o.ensures (omega arith) _ _ c.take_out-left.ensures.value c.take_out-left.ensures.words_after c.requires;
    }

pub overflow_add-s : goal.overflow_add-s
overflow_add-s c = omega (arith, (lies-limits c.requires.lies).1)

pub tell_noted-count-requires : goal.tell_noted-count-requires
tell_noted-count-requires c = room (goal.at.tell_noted-count-requires c).After-take_out-left

pub returns : goal.returns
returns c =
    let a = c.args in
    does-comes a.rest.plan a.rest.time a.rest.count a.s a.words.now a.names _ (stands-found c.requires _ _ c.in-Some.ensures.found) (λ e. omega (arith, c.in-Some.ensures.within, e)) _ c.message_at-m.ensures _ c.heard-o.ensures (omega arith) _ _ c.take_out-left.ensures.value c.take_out-left.ensures.words_after (λ j. search rules) _ _ c.tell_noted-count.ensures.value c.tell_noted-count.ensures.words_after
