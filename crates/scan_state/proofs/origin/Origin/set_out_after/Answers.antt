use Rattle.std.proofs.Common.{◌≡◌, ◌∙◌, ap, length, sym, subst, arith}
use Rattle.std.proofs.lemmas.List.{length-map}
use Rattle.reasoning.proofs.ListLemmas.{extends_none}
use Rattle.timetable.proofs.LegalLemmas.{Contains-At}
use Rattle.criteria.specs.Laws.{Admits}
use Rattle.bags.specs.Bag.{points_of}
use Rattle.bags.specs.declared.point.Point.{Point}
use Rattle.scan_state.specs.Values.{started}
use Rattle.scan_state.specs.Adding.{label_points, set_out_way}
use Rattle.scan_state.specs.Matching.{from_to}
use Rattle.scan_state.specs.ScanRecords.{scan_records, spelling_of}
use Rattle.scan_state.specs.declared.scan_records.SetOut.{SetOut}
use Rattle.scan_state.proofs.Offers.{start_admits, takes_first, takes_next, takes_worth, takes_all}
use Rattle.scan_state.proofs.PartLemmas.{origin_on}
use Rattle.scan_state.proofs.ScanRecordLemmas.{set_outs_grow, grows_on}
use Rattle.scan_state.proofs.origin.Origin.set_out_after.Goals as goal

pub loop-k-init : goal.loop-k-init
loop-k-init g c = record {
  origin = record { found = c.requires.found; set_outs = extends_none c.args.self.now.set_outs.items };
  takes = λ walks exits steps before all ext_before ext.
      takes_first (g.C.Criterion.rules c.args.asked.now.criterion) (label_points c.args.labels.now) _
      (points_of c.args.self.now.found);
}

pub offer-requires-clause-admitted : goal.offer-requires-clause-admitted
offer-requires-clause-admitted g c =
    let rules = g.C.Criterion.rules c.args.asked.now.criterion in
    let laws = g.met.C.Criterion.laws c.args.asked.now.criterion in
    let x = c.label_at-label.result in
    subst (Admits rules) (sym (c.started-value.ensures ∙ ap (λ (v : g.row.C-V.Denot). started rules c.args.departure.start v) c.ride-ridden.ensures))
    (start_admits rules laws c.args.departure.start (rules.ride x.value) c.requires.secs
    (laws.ride_admits x.value (c.requires.labels x
    (Contains-At (label_points c.args.labels.now) c.loop-k.k x c.label_at-label.ensures))))

pub ride-ridden-requires : goal.ride-ridden-requires
ride-ridden-requires g c =
    let x = c.label_at-label.result in
    c.requires.labels x (Contains-At (label_points c.args.labels.now) c.loop-k.k x c.label_at-label.ensures)

pub started-value-requires-clause-admitted : goal.started-value-requires-clause-admitted
started-value-requires-clause-admitted g c =
    let rules = g.C.Criterion.rules c.args.asked.now.criterion in
    let x = c.label_at-label.result in
    subst (Admits rules) (sym c.ride-ridden.ensures) ((g.met.C.Criterion.laws c.args.asked.now.criterion).ride_admits x.value
    (c.requires.labels x (Contains-At (label_points c.args.labels.now) c.loop-k.k x c.label_at-label.ensures)))

pub loop-k-preserved : goal.loop-k-preserved
loop-k-preserved g c =
    let rules = g.C.Criterion.rules c.args.asked.now.criterion in
    let laws = g.met.C.Criterion.laws c.args.asked.now.criterion in
    let x = c.label_at-label.result in
    let worth = c.started-value.ensures ∙ ap (λ (v : g.row.C-V.Denot). started rules c.args.departure.start v) c.ride-ridden.ensures in
    record {
      origin = origin_on c.args.asked.now.criterion c.args.self.now c.loop-k.self c.offer.new.self
          c.loop-k.invariant.origin c.in_ok-offer.ensures.origin;
      takes = λ walks exits steps before all ext_before ext.
          let was = scan_records exits steps c.args.self.now.set_outs.items in
          let mid = scan_records exits steps c.loop-k.self.set_outs.items in
          let now = scan_records exits steps c.offer.new.self.set_outs.items in
          let tags = from_to (spelling_of walks before) (spelling_of walks all) in
          let set_out : SetOut = record { start = c.args.departure.start; first = c.args.place; label = x.tag } in
          takes_next rules (label_points c.args.labels.now)
          (λ (label : Point g.row.C-V.Denot). set_out_way tags c.args.departure.time
          (started rules c.args.departure.start (rules.ride label.value)) (record {
            start =
                c.args.departure.start;
            first = c.args.place;
            label = label.tag;
          }))
          c.loop-k.k x (points_of c.args.self.now.found) (points_of c.loop-k.self.found) (points_of c.offer.new.self.found) c.label_at-label.ensures
          (λ y way is opened. start_admits rules laws c.args.departure.start (rules.ride y.value) c.requires.secs
          (laws.ride_admits y.value (c.requires.labels y is)))
          (c.loop-k.invariant.takes walks exits steps before all ext_before
          (grows_on mid now all (set_outs_grow exits steps c.loop-k.self.set_outs.items
          c.offer.new.self.set_outs.items c.in_ok-offer.ensures.origin.set_outs) ext))
          (takes_worth rules c.args.departure.time c.started-value.result
          (started rules c.args.departure.start (rules.ride x.value))
          ((set_out_way tags c.args.departure.time x.value set_out).fits_tag tt) (points_of c.loop-k.self.found)
          (points_of c.offer.new.self.found) worth
          (c.in_ok-offer.ensures.takes walks exits steps before all
          (grows_on before was mid ext_before (set_outs_grow exits steps c.args.self.now.set_outs.items
          c.loop-k.self.set_outs.items c.loop-k.invariant.origin.set_outs)) ext));
    }

pub returns : goal.returns
returns g c = record {
  origin = c.loop-k.invariant.origin;
  takes = λ walks exits steps before all ext_before ext.
      let rules = g.C.Criterion.rules c.args.asked.now.criterion in
      let tags = from_to (spelling_of walks before) (spelling_of walks all) in
      let labels = c.args.labels.now in
      let long : length (label_points labels) ≡ length labels = length-map labels _ in
      let over = c.loop-k-test.false in
      takes_all rules (label_points c.args.labels.now) c.args.departure.time
      (λ label. started rules c.args.departure.start (rules.ride label.value))
      (λ label. (set_out_way tags c.args.departure.time label.value (record {
        start = c.args.departure.start;
        first =
            c.args.place;
        label = label.tag;
      })).fits_tag tt) _ c.loop-k.k (points_of c.args.self.now.found)
      (points_of c.loop-k.self.found) (omega arith)
      (λ label tag h. h)
      (c.loop-k.invariant.takes walks exits steps before all ext_before ext);
}
