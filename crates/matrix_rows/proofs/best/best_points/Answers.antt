use Rattle.std.proofs.Common.{◌<◌, [], ◌∷◌, ℕ, List, arith, get_or, length, subst, sym}
use Rattle.std.proofs.lemmas.List.Elements.{Contains-get_or}
use Rattle.scan_state.specs.SetQuery.{IsAnswerBetween}
use Rattle.profile_scan.specs.Everywhere.{asked_to_any}
use Rattle.matrix_rows.specs.Tables.{from_stops}
use Rattle.matrix_rows.proofs.Answering.{answer_at, one_stop}
use Rattle.matrix_rows.proofs.best.best_points.Goals as goal

pub points-requires : goal.points-requires
points-requires g c =
    let stops = c.args.stops.now in
    let one = c.if-stops-eq1.true in
    let some : 0 < length stops = omega (arith, one) in
    let long = c.requires.answered.long in
    let within = c.requires.within (get_or stops 0 0) (Contains-get_or stops 0 0 some) in
    omega (arith, long, within)

pub returns-then-stops-eq1 : goal.returns-then-stops-eq1
returns-then-stops-eq1 g c =
    let stops = c.args.stops.now in
    let profiles = c.args.profiles.now in
    let rules = g.C.Criterion.rules c.args.criterion.now in
    let t = c.args.image.now.timetable in
    let one = c.if-stops-eq1.true in
    let some : 0 < length stops = omega (arith, one) in
    let stop = get_or stops 0 0 in
    let answer = answer_at g.C.Criterion.rules t profiles c.args.criterion.now stop c.requires.answered c.requires.same
    (c.requires.within stop (Contains-get_or stops 0 0 some)) in
    subst (λ (ss : List ℕ). IsAnswerBetween rules t (from_stops (asked_to_any profiles) ss) c.points.result.now) (one_stop stops 0 (omega (arith, one)))
    (subst (IsAnswerBetween rules t (from_stops (asked_to_any profiles) (stop ∷ []))) (sym c.points.ensures) answer)
