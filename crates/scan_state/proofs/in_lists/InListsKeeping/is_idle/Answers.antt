use Rattle.std.proofs.Common.{◌≡◌, ◌<◌, ℕ, Contains, arith, slice_index, sym, ◌∙◌, ap, map, subst}
use Rattle.std.proofs.lemmas.List.{nil_from_length}
use Rattle.reasoning.proofs.ListLemmas.{not_in_nil}
use Rattle.fronts.specs.Lists.{entries_of, items_of, list_points, lists_criterion, point_of}
use Rattle.fronts.proofs.Points.{none_at_end}
use Rattle.fronts.specs.Labels.{labels_at}
use Rattle.scan_state.specs.Adding.{label_points}
use Rattle.scan_state.proofs.in_lists.InListsKeeping.is_idle.Goals as goal

pub head-head-requires : goal.head-head-requires
head-head-requires g c = subst (λ (n : ℕ). c.args.connection.now.to < n) (sym c.requires.under.at_stops.long) c.requires.stop

pub count-requires : goal.count-requires
count-requires g c = (
  g.C.Criterion.rules c.args._asked.now.criterion,
  record {
    there = subst (λ (n : ℕ). c.args.connection.now.trip < n) (sym c.requires.under.long) c.requires.trip;
    sound = c.requires.under.labels;
  },
)

pub returns : goal.returns
returns g c is stops_are trips_are values under =
    let stops = c.args.self.now.stops in
    let lists = stops.lists in
    let cn = c.args.connection.now in
    let labels = c.args.self.now.trips.labels in
    let nothing = c.alighting_leads_nowhere-nowhere.ensures.0 c.if-not-nowhere.false in
    let no_label : c.count.result ≡ 0 = omega (arith, c.if-count-gt0.false) in
    let none = nil_from_length (labels_at labels cn.trip) (sym c.count.ensures ∙ no_label) in
    let empty = ap (map point_of) (none_at_end (g.C.Criterion.rules (lists_criterion lists)) (entries_of lists) (items_of lists)
    c.requires.under.at_stops.sound) in
    record {
      no_labels = ap label_points none;
      leads_nowhere = λ alights.
          let here = nothing alights in
          let head_is : slice_index stops.heads.items cn.to ≡ 0 = sym c.head-head.ensures ∙ here.1 in
          (here.0, λ p h. absurd (not_in_nil p (subst (λ ps. Contains ps p) (ap (list_points lists) head_is ∙ empty) h)));
    }
