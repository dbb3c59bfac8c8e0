use Rattle.std.proofs.Common.{◌≡◌, ◌+◌, ◌-◌, inr, refl, arith, rules, FitsSigned, w64}
use Rattle.std.proofs.lemmas.Int.{to_z-of_z}
use Rattle.connections.proofs.DaySteps.{first_missing, started_all, started_more, started_none}
use Rattle.connections.proofs.days.service_days.Goals as goal

pub loop-done-init : goal.loop-done-init
loop-done-init c = let all : c.args.days - 0 ≡ c.args.days = omega arith in
    rw (c.in-Ok.ensures.items, all) (started_none c.args.zone.now c.args.first c.args.days)

pub day_after-day-requires : goal.day_after-day-requires
day_after-day-requires c = c.in-Ok-day_start.ensures.ok.0

pub loop-done-preserved : goal.loop-done-preserved
loop-done-preserved c =
    let fits : FitsSigned w64 c.in-Ok-day_start.start = search rules in
    let less : c.args.days - c.loop-done.done ≡ c.args.days - (c.loop-done.done + 1) + 1 = (let d = c.loop-done-test.true in omega arith) in
    rw (c.in-Ok-push.ensures.items, c.day_after-day.ensures, to_z-of_z w64 c.in-Ok-day_start.start fits)
    (started_more c.args.zone.now c.args.first c.args.days c.loop-done.service_days.items c.loop-done.day c.in-Ok-day_start.start
    (c.args.days - c.loop-done.done) (c.args.days - (c.loop-done.done + 1)) c.loop-done.invariant c.in-Ok-day_start.ensures.ok less)

pub returns-in_default-day_start-clause-err : goal.returns-in_default-day_start-clause-err
returns-in_default-day_start-clause-err c =
    let less : c.args.days - c.loop-done.done ≡ c.args.days - (c.loop-done.done + 1) + 1 = (let d = c.loop-done-test.true in omega arith) in
    inr (record {
      day = c.loop-done.day;
      is = refl;
      first = first_missing c.args.zone.now c.args.first c.args.days c.loop-done.service_days.items c.loop-done.day
          (c.args.days - c.loop-done.done) (c.args.days - (c.loop-done.done + 1)) c.loop-done.invariant less c.in_default-day_start.ensures.err.1;
    })

pub returns-clause-ok : goal.returns-clause-ok
returns-clause-ok c =
    let end : c.args.days - c.loop-done.done ≡ 0 = (let d = c.loop-done-test.false in omega arith) in
    started_all c.args.zone.now c.args.first c.args.days c.loop-done.service_days.items c.loop-done.day (c.args.days - c.loop-done.done) c.loop-done.invariant
    end
