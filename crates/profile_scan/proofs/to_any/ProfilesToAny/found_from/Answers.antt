use Rattle.std.proofs.Common.{◌≡◌, ◌<◌, ℕ, List, length, Option, Some, IfOk, slice_get, refl, sym, ◌∙◌, subst}
use Rattle.std.proofs.lemmas.Option.{slice_get_read}
use Rattle.bags.specs.declared.point.Point.{Point}
use Rattle.profile_scan.specs.Answered.{IsTaggedAnswer}
use Rattle.profile_scan.specs.Everywhere.{asked_to_any, criterion_to_any, listed_to_any}
use Rattle.profile_scan.specs.Found.{AnswersBetween}
use Rattle.scan_state.specs.Origins.{from_stop, set_outs_by}
use Rattle.scan_state.specs.ScanRecords.{scan_records, spelling_of}
use Rattle.scan_state.specs.SetQuery.{SetQueryValue, IsDirectWalk, question}
use Rattle.profile_scan.proofs.to_any.ProfilesToAny.found_from.Given as given
use Rattle.profile_scan.proofs.to_any.ProfilesToAny.found_from.Goals.{After-index-origin}
use Rattle.profile_scan.proofs.to_any.ProfilesToAny.found_from.Goals as goal

pub index-origin-requires : goal.index-origin-requires
index-origin-requires g c =
    let each = c.args.self.now.state.origin.each in
    subst (λ (n : ℕ). c.args.stop < n) (sym (each.ok.0 ∙ c.requires.answered.origins.long)) c.requires.stop

pub points-points-requires : goal.points-points-requires
points-points-requires g c = subst (λ (n : ℕ). c.args.stop < n) (sym c.requires.answered.long) c.requires.stop

pub direct_walk-walk-requires : goal.direct_walk-walk-requires
direct_walk-walk-requires g c = subst (λ (n : ℕ). c.args.stop < n) (sym c.requires.answered.final_walks) c.requires.stop

-- what was found from the stop is there
at_stop : (g : given.Over) (c : goal.After-index-origin g) → slice_get c.args.self.now.state.origin.each.items c.args.stop ≡ Some c.index-origin.result.now
at_stop g c =
    let each = c.args.self.now.state.origin.each.items in
    slice_get_read each (length each) c.args.stop c.index-origin.result.now refl
    (subst (λ (n : ℕ). c.args.stop < n) (sym c.requires.answered.origins.long) c.requires.stop) c.index-origin.ensures

pub found_in_nodes-requires-clause-tagged : goal.found_in_nodes-requires-clause-tagged
found_in_nodes-requires-clause-tagged g c =
    let profiles = c.args.self.now in
    let t = g.S.ConnSource.timetable c.args.source.now in
    let rules = g.C.Criterion.rules (criterion_to_any profiles) in
    let kept = g.C.Kept.Keeping.value profiles.state.keeping in
    let at_query = subst (λ (b : SetQueryValue). IsTaggedAnswer rules t b
    (spelling_of t.footpaths (scan_records kept.exits kept.steps c.index-origin.result.now.set_outs.items)).journey (listed_to_any profiles c.args.stop))
    (sym c.in_ok-query.ensures)
    (subst (λ (x : Option _). IsTaggedAnswer rules t (from_stop (asked_to_any profiles) c.args.stop)
    (spelling_of t.footpaths (scan_records kept.exits kept.steps (set_outs_by x))).journey (listed_to_any profiles c.args.stop))
    (at_stop g (goal.at.found_in_nodes-requires-clause-tagged g c).After-index-origin) (c.requires.answered.each c.args.stop c.requires.stop)) in
    subst (λ (ps : List (Point g.row.C-V.Denot)). IsTaggedAnswer rules t (question c.in_ok-query.query)
    (spelling_of t.footpaths (scan_records kept.exits kept.steps c.index-origin.result.now.set_outs.items)).journey ps)
    (sym c.points-points.ensures) at_query

pub found_in_nodes-requires-clause-direct : goal.found_in_nodes-requires-clause-direct
found_in_nodes-requires-clause-direct g c =
    let t = g.S.ConnSource.timetable c.args.source.now in
    subst (λ (b : SetQueryValue). IsDirectWalk t b c.direct_walk-walk.result) (sym c.in_ok-query.ensures)
    (subst (IsDirectWalk t (from_stop (asked_to_any c.args.self.now) c.args.stop)) (sym c.direct_walk-walk.ensures)
    (c.requires.answered.direct c.args.stop c.requires.stop c.requires.differ))

pub returns : goal.returns
returns g c =
    let criterion = criterion_to_any c.args.self.now in
    subst (λ (b : SetQueryValue). IfOk c.found_in_nodes.result
    (AnswersBetween criterion (g.C.Criterion.rules criterion) (g.S.ConnSource.timetable c.args.source.now) b)) c.in_ok-query.ensures c.found_in_nodes.ensures
