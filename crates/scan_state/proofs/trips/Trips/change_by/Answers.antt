use Rattle.std.proofs.Common.{List, Contains, inl, inr, sym, ◌∙◌, ap, subst}
use Rattle.std.proofs.lemmas.Result.{on_ok_weaker}
use Rattle.criteria.specs.Laws.{Admits}
use Rattle.fronts.specs.declared.labels.Label.{Label}
use Rattle.fronts.specs.Labels.{labels_at}
use Rattle.fronts.specs.Offered.{is_beaten}
use Rattle.fronts.proofs.Runs.{labels_admitted}
use Rattle.scan_state.specs.Adding.{trip_points}
use Rattle.scan_state.specs.Bound.{Excludes, any_no_worse}
use Rattle.scan_state.proofs.ChangeLemmas.{change_way}
use Rattle.scan_state.proofs.KeptLemmas.{labels_as, labels_none}
use Rattle.scan_state.proofs.LabelLemmas.{beaten_covers}
use Rattle.scan_state.proofs.Offers.{excused_as}
use Rattle.scan_state.proofs.PartLemmas.{labels_still}
use Rattle.scan_state.proofs.trips.Trips.change_by.Goals as goal

pub some_no_worse-requires-clause-points : goal.some_no_worse-requires-clause-points
some_no_worse-requires-clause-points g c l h =
    labels_admitted (g.C.Criterion.rules c.args.asked.now.criterion) c.args.self.now.labels c.requires.can.trip.sound
    c.args.hop.now.connection.trip l (subst (λ (ls : List (Label g.row.C-V.Denot)). Contains ls l) c.of-labels.ensures h)

pub returns-then-some_no_worse : goal.returns-then-some_no_worse
returns-then-some_no_worse g c =
    let rules = g.C.Criterion.rules c.args.asked.now.criterion in
    let value = c.args.point.now.value in
    let above = ap (λ (ls : List (Label g.row.C-V.Denot)). is_beaten rules ls value) (sym c.of-labels.ensures)
    ∙ sym c.some_no_worse.ensures ∙ c.if-some_no_worse.true in
    record {
      labels = labels_still rules c.requires.can.trip;
      takes = λ stops. labels_none rules (λ tags way opened.
          inl (beaten_covers rules (labels_at c.args.self.now.labels c.args.hop.now.connection.trip) value above));
    }

pub any_no_worse-requires-clause-value : goal.any_no_worse-requires-clause-value
any_no_worse-requires-clause-value g c =
    subst (Admits (g.C.Criterion.rules c.args.asked.now.criterion)) (sym c.ride-ridden.ensures)
    ((g.met.C.Criterion.laws c.args.asked.now.criterion).ride_admits c.args.point.now.value c.requires.point)

pub returns : goal.returns
returns g c =
    let rules = g.C.Criterion.rules c.args.asked.now.criterion in
    let hop = c.args.hop.now in
    let p = c.args.point.now in
    on_ok_weaker c.offer.result
    (λ taken. record {
      labels = taken.labels;
      takes = λ stops. labels_as rules (λ tags. excused_as rules (λ _. ⊥) (λ _. Excludes rules hop.bound.now p.value)
          (change_way tags hop.place p) (trip_points c.args.self.now.labels hop.connection.trip) (trip_points c.offer.new.self.labels hop.connection.trip)
          (λ way opened none. absurd none)) (taken.takes stops);
    })
    c.offer.ensures

pub returns-then-any_no_worse : goal.returns-then-any_no_worse
returns-then-any_no_worse g c =
    let rules = g.C.Criterion.rules c.args.asked.now.criterion in
    let excluded = ap (any_no_worse rules c.args.hop.now.bound.now) (sym c.ride-ridden.ensures) ∙ sym c.any_no_worse.ensures ∙ c.if-any_no_worse.true in
    record {
      labels = labels_still rules c.requires.can.trip;
      takes = λ stops. labels_none rules (λ tags way opened. inr excluded);
    }
