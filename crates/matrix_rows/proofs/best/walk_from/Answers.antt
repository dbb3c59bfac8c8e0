use Rattle.std.proofs.Common.{◌∙◌, ◌∷◌, [], Option, arith, subst, sym}
use Rattle.timetable.specs.declared.network.Footpath.{Footpath}
use Rattle.scan_state.specs.SetQuery.{secs_of}
use Rattle.profile_scan.specs.Everywhere.{asked_to_any, walk_to_any}
use Rattle.matrix_rows.specs.Tables.{IsLeastWalk, from_stops}
use Rattle.matrix_rows.proofs.Walks.{walk_of_one}
use Rattle.matrix_rows.proofs.best.walk_from.Goals as goal

pub direct_walk-requires : goal.direct_walk-requires
direct_walk-requires g c =
    let long = c.requires.answered.final_walks in
    let within = c.requires.within in
    omega (arith, long, within)

pub returns-in-Some : goal.returns-in-Some
returns-in-Some g c =
    let t = c.args.image.now.timetable in
    let profiles = c.args.profiles.now in
    let d = asked_to_any profiles in
    let stop = c.args.stop in
    subst (λ (w : Option Footpath). IsLeastWalk t (from_stops d (stop ∷ [])) (secs_of w)) (sym c.direct_walk.ensures ∙ c.in-Some.is)
    (walk_of_one t d stop (walk_to_any profiles stop) (c.requires.answered.direct stop c.requires.within c.requires.apart))

pub returns-in-None : goal.returns-in-None
returns-in-None g c =
    let t = c.args.image.now.timetable in
    let profiles = c.args.profiles.now in
    let d = asked_to_any profiles in
    let stop = c.args.stop in
    subst (λ (w : Option Footpath). IsLeastWalk t (from_stops d (stop ∷ [])) (secs_of w)) (sym c.direct_walk.ensures ∙ c.in-None.is)
    (walk_of_one t d stop (walk_to_any profiles stop) (c.requires.answered.direct stop c.requires.within c.requires.apart))
