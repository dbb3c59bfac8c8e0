use Rattle.std.proofs.Common.{sym, subst, arith}
use Rattle.std.proofs.lemmas.Result.{IfOk-weaker}
use Rattle.reasoning.proofs.ListLemmas.{extends_on, extends_one}
use Rattle.profile_scan.specs.Views.{scan_records_seen}
use Rattle.profile_scan.specs.JourneyNodes.{SaysLabel, SaysJourney}
use Rattle.profile_scan.proofs.JourneyNodeLemmas.{route_over, route_popped, route_spelled, first_spelled, says_journey}
use Rattle.profile_scan.proofs.view.ScanView.add_journey_nodes.Goals as goal

pub loop-label-init : goal.loop-label-init
loop-label-init g c =
    let walks = (g.S.ConnSource.timetable c.args.source.now).footpaths in
    let s = scan_records_seen g.K.Keeping.value c.args.self.now in
    let first = c.index-set_out.result.now.label in
    let spelled = (first_spelled walks s c.args.tag c.index-set_out.result.now c.requires c.index-set_out.ensures).1 in
    let last = c.in_ok-last.last in
    let route = c.in_ok-last.ensures.route in
    record {
      nodes = c.in_ok-next.ensures.nodes;
      says =
          let at_last = route_spelled walks s first c.note_route.new.route.items last route spelled in
          (last, route, c.in_ok-next.ensures.says walks at_last (c.in_ok-last.ensures.ends walks spelled));
    }

pub add_change_nodes-requires-clause-spelled : goal.add_change_nodes-requires-clause-spelled
add_change_nodes-requires-clause-spelled g c =
    let walks = (g.S.ConnSource.timetable c.args.source.now).footpaths in
    let s = scan_records_seen g.K.Keeping.value c.args.self.now in
    let first = c.index-set_out.result.now.label in
    let spelled = (first_spelled walks s c.args.tag c.index-set_out.result.now c.requires c.index-set_out.ensures).1 in
    let says = c.loop-label.invariant.says in
    let p = route_popped s first c.loop-label.route.items c.pop.new.self.items c.in-Some.label says.0 c.in-Some.ensures.items says.1 in
    route_spelled walks s first c.pop.new.self.items c.in-Some.label p.0 spelled

pub add_change_nodes-requires-clause-next : goal.add_change_nodes-requires-clause-next
add_change_nodes-requires-clause-next g c =
    let walks = (g.S.ConnSource.timetable c.args.source.now).footpaths in
    let s = scan_records_seen g.K.Keeping.value c.args.self.now in
    let says = c.loop-label.invariant.says in
    let first = c.index-set_out.result.now.label in
    let p = route_popped s first c.loop-label.route.items c.pop.new.self.items c.in-Some.label says.0 c.in-Some.ensures.items says.1 in
    (p.1.0, p.1.1, subst (λ n. SaysLabel walks s n c.loop-label.nodes.items c.loop-label.next) (sym p.1.2) says.2)

pub loop-label-preserved : goal.loop-label-preserved
loop-label-preserved g c =
    let s = scan_records_seen g.K.Keeping.value c.args.self.now in
    let says = c.loop-label.invariant.says in
    let first = c.index-set_out.result.now.label in
    let p = route_popped s first c.loop-label.route.items c.pop.new.self.items c.in-Some.label says.0 c.in-Some.ensures.items says.1 in
    record {
      nodes = extends_on c.args.nodes.now.items c.loop-label.nodes.items c.add_change_nodes.new.nodes.items
          c.loop-label.invariant.nodes c.in_ok-next-2.ensures.nodes;
      says = (c.in-Some.label, p.0, c.in_ok-next-2.ensures.says);
    }

pub returns : goal.returns
returns g c =
    let walks = (g.S.ConnSource.timetable c.args.source.now).footpaths in
    let s = scan_records_seen g.K.Keeping.value c.args.self.now in
    let x = c.index-set_out.result.now in
    let at = (first_spelled walks s c.args.tag x c.requires c.index-set_out.ensures).0 in
    let new = c.add.new.nodes.items in
    let says = c.loop-label.invariant.says in
    let none = c.in_default.ensures.cases.0 in
    let long = c.loop-label.route.ok.0 in
    let over = route_over s x.label c.loop-label.route.items says.0 (omega arith) says.1 in
    let rides_on = subst (λ n. SaysLabel walks s n c.loop-label.nodes.items c.loop-label.next) (sym over) says.2 in
    IfOk-weaker c.add.result _ _
    (λ number added. record {
      nodes = extends_on c.args.nodes.now.items c.loop-label.nodes.items new c.loop-label.invariant.nodes
          (extends_one c.loop-label.nodes.items new _ added.1);
      says = subst (SaysJourney walks s c.args.tag new) (sym added.0)
          (says_journey walks s c.args.tag c.loop-label.next x c.loop-label.nodes.items new at rides_on added.1);
    })
    c.add.ensures
