use Rattle.std.proofs.Common.{map, sym, ◌∙◌, ap, arith}
use Rattle.std.proofs.lemmas.List.{take_all}
use Rattle.profile_scan.specs.Views.{scan_records_seen}
use Rattle.scan_state.specs.Points.{untagged}
use Rattle.profile_scan.proofs.JourneyNodeLemmas.{spelled_again_more}
use Rattle.profile_scan.proofs.journey_nodes.journeys_as_nodes.Goals as goal

pub add_journey_nodes-requires : goal.add_journey_nodes-requires
add_journey_nodes-requires g c = c.requires c.index-points-i.result (c.loop-i.i, omega arith, sym c.index-points-i.is)

pub loop-i-preserved : goal.loop-i-preserved
loop-i-preserved g c =
    let walks = (g.S.ConnSource.timetable c.args.source.now).footpaths in
    let m = spelled_again_more walks (scan_records_seen g.K.Keeping.value c.args.view.now) c.args.points.now c.loop-i.spelled.items c.push.new.self.items
    c.loop-i.nodes.items c.add_journey_nodes.new.nodes.items c.loop-i.i c.index-points-i.result c.in_ok-tag.tag
    c.in_ok-tag.ensures.nodes (omega arith) c.index-points-i.is c.in_ok-push.ensures.items c.in_ok-tag.ensures.says
    c.loop-i.invariant.same c.loop-i.invariant.says in
    record { same = m.0; says = m.1 }

pub returns : goal.returns
returns g c = record {
  same = c.loop-i.invariant.same ∙ ap (map untagged) (take_all c.loop-i.i c.args.points.now (omega arith));
  says = c.loop-i.invariant.says;
}
