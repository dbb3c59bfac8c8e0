use Rattle.std.proofs.Common.{arith, refl, subst, ℕ, ◌≤◌}
use Rattle.std.proofs.lemmas.List.Elements.{All-contains}
use Rattle.std.proofs.lemmas.Result.{err_from_is_err_and}
use Rattle.timetable.proofs.LegalLemmas.{Contains-At}
use Rattle.timetable.specs.declared.limits.TheConstants.{MAX_WALK_SECS}
use Rattle.timetable.specs.declared.network.Footpath.{Footpath}
use Rattle.footpaths.specs.Closure.{HasLegalFootpaths}
use Rattle.connections.proofs.LegalLemmas.{base_of}
use Rattle.feed_loader.proofs.MadeLemmas.{footpaths_refused, image_ran_out, is_writable, names_refused}
use Rattle.feed_loader.proofs.made.image_of.Goals as goal

-- the runs are listed, and their names are refused
pub returns-in_err-names-clause-err : goal.returns-in_err-names-clause-err
returns-in_err-names-clause-err c =
    let outcome = err_from_is_err_and c.from_residual-in_err-names.result c.from_residual-in_err-names.ensures.1 in
    rw (outcome.1, outcome.2) (names_refused c.args.feed.now c.args.plan.now c.in_ok-connections.connections.items c.in_ok-connections.runs.items
    c.in_err-names.field-0.0 (omega (
      arith,
      c.if-len.false,
      c.len.ensures,
    )) c.in_ok-connections.ensures.ok (rw (← c.deref.ensures.value) c.in_err-names.ensures.err))

-- the runs are listed, so the first day has a start
pub short_names-requires : goal.short_names-requires
short_names-requires c = base_of c.args.plan.now.zone c.args.plan.now.first_day c.args.plan.now.days c.requires.some c.in_ok-connections.ensures.ok.started

-- the names are made, and the closure of the footpaths is refused
pub returns-in_err-footpaths-clause-err : goal.returns-in_err-footpaths-clause-err
returns-in_err-footpaths-clause-err c =
    let outcome = err_from_is_err_and c.from_residual-in_err-footpaths.result c.from_residual-in_err-footpaths.ensures.1 in
    let listed = c.in_ok-connections in
    rw (outcome.1, outcome.2) (footpaths_refused c.args.feed.now c.args.plan.now listed.connections.items listed.runs.items c.in_ok-names.names
    c.in_err-footpaths.field-0.0 _ refl (omega (
      arith,
      c.if-len.false,
      c.len.ensures,
    )) listed.ensures.ok (rw (← c.deref.ensures.value) c.in_ok-names.ensures.ok) c.in_ok-names.ensures.short c.in_err-footpaths.ensures.fault)

-- what is written is legal and within limits
pub written-requires : goal.written-requires
written-requires c =
    is_writable c.args.feed.now c.args.plan.now _ c.in_ok-names.names c.in_ok-connections.connections.items
    c.in_ok-connections.runs.items c.in_ok-footpaths.footpaths.items (omega (arith, c.len-4.ensures)) (omega (
      arith,
      c.len-5.ensures,
    )) refl refl
    (omega (arith, c.if-len.false, c.len.ensures)) c.in_ok-connections.ensures.ok
    (c.listing_is_legal.ensures c.args.feed.now c.args.plan.now.zone c.args.plan.now.first_day c.args.plan.now.days
    c.in_ok-connections.connections.items c.in_ok-connections.runs.items c.requires.some
    c.in_ok-connections.ensures.ok) (c.listing_is_within_limits.ensures c.args.feed.now c.args.plan.now.zone
    c.args.plan.now.first_day c.args.plan.now.days c.in_ok-connections.connections.items
    c.in_ok-connections.runs.items c.requires.some c.in_ok-connections.ensures.ok)
    (subst (λ (n : ℕ). HasLegalFootpaths n c.in_ok-footpaths.footpaths.items) (omega (
      arith,
      c.len-2.ensures,
    )) c.in_ok-footpaths.ensures.legal) c.in_ok-footpaths.ensures.few
    (λ i f at. All-contains (λ (p : Footpath). p.secs ≤ MAX_WALK_SECS) _ f c.in_ok-footpaths.ensures.short
    (Contains-At _ i f at)) (rw (← c.deref.ensures.value) c.in_ok-names.ensures.ok) c.in_ok-names.ensures.short

-- the image that was made is one of the feed, so only memory was wanting
pub returns-in_err-image-clause-err : goal.returns-in_err-image-clause-err
returns-in_err-image-clause-err c =
    let outcome = err_from_is_err_and c.from_residual-in_err-image.result c.from_residual-in_err-image.ensures.1 in
    let listed = c.in_ok-connections in
    rw (outcome.1, outcome.2) (image_ran_out c.args.feed.now c.args.plan.now _ c.in_ok-names.names listed.connections.items
    listed.runs.items c.in_ok-footpaths.footpaths.items listed.report c.in_err-image.field-0.0 (omega (arith, c.len-4.ensures)) (omega (
      arith,
      c.len-5.ensures,
    )) refl refl listed.ensures.ok
    c.in_ok-footpaths.ensures.closure (rw (← c.deref.ensures.value) c.in_ok-names.ensures.ok) listed.ensures.report
    c.in_err-image.ensures.err)
