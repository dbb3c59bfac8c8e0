use Rattle.std.proofs.Common.{◌≡◌, ◌-◌, ◌+◌, [], ◌∷◌, length, length-append, refl, sym, ◌∙◌, ap, subst, arith}
use Rattle.scan_state.specs.ScanRecords.{label_spells}
use Rattle.profile_scan.specs.Views.{scan_records_seen}
use Rattle.profile_scan.specs.JourneyNodes.{IsRoute}
use Rattle.profile_scan.proofs.JourneyNodeLemmas.{route_push, spells_change}
use Rattle.profile_scan.proofs.view.ScanView.note_route.Goals as goal

pub loop-i-init : goal.loop-i-init
loop-i-init g c =
    let s = scan_records_seen g.K.Keeping.value c.args.self.now in
    record {
      route = subst (λ ls. IsRoute s c.args.first ls c.args.first) (sym c.clear.ensures.items) refl;
      long = ap length c.clear.ensures.items;
      tells = λ walks is.
          let all : length s.exits - 0 ≡ length s.exits = omega arith in
          (is.0, ap (λ n. label_spells walks s n c.args.first) all ∙ is.1);
    }

pub loop-i-preserved : goal.loop-i-preserved
loop-i-preserved g c =
    let s = scan_records_seen g.K.Keeping.value c.args.self.now in
    let is = sym c.change_after.ensures ∙ c.in-Some.is in
    record {
      route = subst (λ ls. IsRoute s c.args.first ls c.in-Some.change.step.label)
          (sym c.in_ok-push-in-Some.ensures.items)
          (route_push s c.args.first c.loop-i.route.items c.loop-i.label c.in-Some.change c.loop-i.invariant.route is);
      long = ap length c.in_ok-push-in-Some.ensures.items ∙ length-append c.loop-i.route.items (c.loop-i.label ∷ [])
          ∙ ap (λ n. n + 1) c.loop-i.invariant.long;
      tells = λ walks spelled.
          let before = c.loop-i.invariant.tells walks spelled in
          let t = spells_change walks s (length s.exits - c.loop-i._i) c.loop-i.label c.in-Some.change.last c.in-Some.change.step before.0 is before.1 in
          let fewer : length s.exits - (c.loop-i._i + 1) ≡ length s.exits - c.loop-i._i - 1 = omega arith in
          (t.1.rides_on, ap (λ n. label_spells walks s n c.in-Some.change.step.label) fewer ∙ t.1.tells);
    }

-- no vector has that many elements
pub returns-clause-ends : goal.returns-clause-ends
returns-clause-ends g c walks spelled =
    let past = c.loop-i-test.false in
    let long = c.loop-i.invariant.long in
    let within = c.loop-i.route.ok in
    let small = c.loop-i.route.small in
    absurd (omega (arith, past, long, within.0, within.1, small))
