use Rattle.std.proofs.Common.{◌+◌, ◌∙◌, ap, get_or, length, map, pos, List}
use Rattle.std.proofs.lemmas.List.{get_or_default, length_push, take_all}
use Rattle.service_days.specs.Named.{names_of}
use Rattle.connections.specs.Active.{active_among}
use Rattle.connections.specs.declared.days.ServiceDay.{ServiceDay}
use Rattle.connections.proofs.ActiveSteps.{active_more}
use Rattle.connections.proofs.trip_services.active_on_days.Goals as goal

pub loop-day-preserved : goal.loop-day-preserved
loop-day-preserved c =
    let none : ServiceDay = record { day = record { year = 0; month = 0; day = 0 }; start = pos 0 } in
    let days = c.args.days.now in
    let i = c.loop-day.day-index in
    let day : ServiceDay = get_or days i none in
    let was = c.loop-day.invariant in
    record {
      len = ap length c.in_ok-push.ensures.items ∙ length_push c.loop-day.active.items c.in_ok-running.running ∙ ap (λ n. n + 1) was.len;
      active = λ feed holds.
          active_more feed (names_of c.args.named.now) days c.loop-day.active.items c.push.new.self.items i day c.in_ok-running.running
          c.loop-day-test.true (get_or_default days i none day c.loop-day-test.true)
          (c.in_ok-running.ensures feed.calendar.items feed.calendar_dates.items holds) c.in_ok-push.ensures.items (was.active feed holds);
    }

pub returns-clause-active : goal.returns-clause-active
returns-clause-active c feed holds =
    c.loop-day.invariant.active feed holds
    ∙ ap (λ (ds : List ServiceDay). map (active_among feed (names_of c.args.named.now)) (map (λ d. d.day) ds))
    (take_all c.loop-day.day-index c.args.days.now c.loop-day-test.false)
