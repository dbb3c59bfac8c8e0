-- What a server printed before it listened, and the end of one that listened.
use Rattle.std.proofs.Common.{refl, subst, sym}
use Rattle.feed_loader.specs.declared.fault.LoadFault.{LoadFault}
use Rattle.feed_plans.specs.Zoning.{IsNoPlan, IsNoZoneOf}
use Rattle.feed_plans.specs.declared.zones.PlanFailure.{PlanFailure}
use Rattle.csa_program.proofs.ServerEnds.{image_refused, listened, unheard, zone_refused, zone_unread}
use Rattle.csa_program.proofs.serve.run.Goals as goal

pub returns-in-Err-Refused-clause-ended : goal.returns-in-Err-Refused-clause-ended
returns-in-Err-Refused-clause-ended g c =
    let may_hold = g.H.ImageDisk.may_hold c.args.rt.now in
    let figures = c.in-Err-Refused in
    let judged = subst (λ (failure : PlanFailure). IsNoPlan may_hold (g.H.ImageDisk.may_fail c.args.rt.now) c.args.request.plan failure)
    figures.field-0-is figures.ensures.refused in
    let bad = subst (λ (fault : LoadFault). IsNoZoneOf may_hold c.args.request.plan fault) (sym figures.fault-is) judged in
    let done = c.refuse_feed.ensures in
    zone_refused may_hold _ _ _ _ c.args.request _ _ _ _ _ _ bad done.status done.memory done.refused done.printed done.silent done.begun done.failed

pub returns-in-Err-Unreadable-clause-ended : goal.returns-in-Err-Unreadable-clause-ended
returns-in-Err-Unreadable-clause-ended g c =
    let may_hold = g.H.ImageDisk.may_hold c.args.rt.now in
    let may_fail = g.H.ImageDisk.may_fail c.args.rt.now in
    let figures = c.in-Err-Unreadable in
    let unread = subst (λ (failure : PlanFailure). IsNoPlan may_hold may_fail c.args.request.plan failure) figures.field-0-is figures.ensures.refused in
    zone_unread may_hold may_fail _ _ _ c.args.request _ _ _ _ _ _ unread c.report_unread_zone.ensures refl

pub returns-in-Err-clause-ended : goal.returns-in-Err-clause-ended
returns-in-Err-clause-ended g c =
    image_refused (g.H.ImageDisk.may_hold c.args.rt.now) _ _ _ _ c.args.request _ _ _ _ _ _ (c.in-Ok.ensures.zone, (_, c.in-Ok.ensures.plan))
    c.in-Err.ensures.refused

pub returns-in-Err-bound_at-clause-ended : goal.returns-in-Err-bound_at-clause-ended
returns-in-Err-bound_at-clause-ended g c =
    unheard (g.H.ImageDisk.may_hold c.args.rt.now) _ _ _ _ c.args.request _ _ _ _ _ c.in-Ok-open_image.image _
    (c.in-Ok.ensures.zone, (_, c.in-Ok.ensures.plan)) c.in-Ok-open_image.ensures.image c.none_received.ensures
    c.in-Ok-open_image.ensures.silent

pub returns-clause-ended : goal.returns-clause-ended
returns-clause-ended g c =
    listened (g.H.ImageDisk.may_hold c.args.rt.now) _ _ _ _ c.args.request _ _ _ _ _ c.in-Ok-open_image.image _ c.in-Ok-bound_at.bound.port _
    (c.in-Ok.ensures.zone, (_, c.in-Ok.ensures.plan)) c.in-Ok-open_image.ensures.image c.in-Ok-bound_at.ensures.at
    c.in-Ok-bound_at.ensures.small c.in-Ok-open_image.ensures.silent c.serve_at.ensures
