use Rattle.std.proofs.Common.{refl, sym, ap, subst}
use Rattle.timetable.specs.TimetableValue.{TimetableValue}
use Rattle.profile_scan.specs.Answered.{IsAnsweredBetween}
use Rattle.scan_state.specs.SetQuery.{question}
use Rattle.profile_scan.specs.Views.{scan_records_seen}
use Rattle.scan_state.specs.declared.set_query.SetQuery.{SetQuery}
use Rattle.profile_scan.proofs.AnsweredLemmas.{tagged_in_nodes}
use Rattle.profile_scan.proofs.answering.found_in_nodes.Given as given
use Rattle.profile_scan.proofs.answering.found_in_nodes.Goals.{After-of}
use Rattle.profile_scan.proofs.answering.found_in_nodes.Goals as goal

pub journeys_as_nodes-requires : goal.journeys_as_nodes-requires
journeys_as_nodes-requires g c p h = let a = c.requires.tagged.attained p h in (a.way, a.spells)

-- what was spelled answers the query
made : (g : given.Over) (c : goal.After-of g) → IsAnsweredBetween (g.C.Criterion.rules c.args.criterion.now) (g.S.ConnSource.timetable c.args.source.now)
    (question c.args.query.now) c.in_ok-spelled.spelled.points.items c.in_ok-spelled.spelled.nodes.items c.args.walk
made g c = record {
  tagged = tagged_in_nodes (g.C.Criterion.rules c.args.criterion.now) (g.S.ConnSource.timetable c.args.source.now) (question c.args.query.now)
      (scan_records_seen g.K.Keeping.value c.args.view.now) c.args.points.now c.in_ok-spelled.spelled.points.items c.in_ok-spelled.spelled.nodes.items
      c.requires.tagged c.in_ok-spelled.ensures;
  direct = c.requires.direct;
}

-- that it answers is kept with the timetable and the query that stand beside it
pub invariant_of-result : goal.invariant_of-result
invariant_of-result g c =
    let rules = g.C.Criterion.rules c.args.criterion.now in
    let points = c.in_ok-spelled.spelled.points.items in
    let nodes = c.in_ok-spelled.spelled.nodes.items in
    let at_t = subst (λ (x : TimetableValue). IsAnsweredBetween rules x (question c.args.query.now) points nodes c.args.walk) (sym c.timetable_of.ensures)
    (made g (goal.at.invariant_of-result g c).After-of) in
    let at_q = subst (λ (x : SetQuery). IsAnsweredBetween rules c.timetable_of.result.value (question x) points nodes c.args.walk) (sym c.of.ensures) at_t in
    record { answered = ∣ at_q ∣₁ }

pub returns : goal.returns
returns g c = record {
  answered = made g (goal.at.returns g c).After-of;
  keeps = (refl, c.timetable_of.ensures, ap question c.of.ensures);
}
