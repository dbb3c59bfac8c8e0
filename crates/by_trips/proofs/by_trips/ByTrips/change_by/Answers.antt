use Rattle.std.proofs.Common.{inr, sym, ◌∙◌, ap, subst, arith}
use Rattle.std.proofs.lemmas.Result.{on_ok_weaker}
use Rattle.lanes.specs.Lanes.{trip_rules}
use Rattle.scan_state.specs.SetQuery.{question}
use Rattle.scan_state.specs.Bound.{any_no_worse}
use Rattle.by_trips.proofs.LanesBoarded.{ride_admitted}
use Rattle.by_trips.proofs.ByTripsLeft.{change_offered, nothing_taken}
use Rattle.scan_state.proofs.KeptLemmas.{labels_none}
use Rattle.criteria.specs.Laws.{Admits}
use Rattle.by_trips.proofs.by_trips.ByTrips.change_by.Goals as goal

pub returns-then-point-hop : goal.returns-then-point-hop
returns-then-point-hop c =
    let q = question c.args.asked.now.query in
    let hop = c.args.hop.now in
    let early = c.if-point-hop.true in
    nothing_taken q hop c.args.self.now c.requires.can
    (labels_none trip_rules (λ tags way opened. let late = opened.0 in absurd (omega (arith, early, late))))

pub any_no_worse-requires-clause-values : goal.any_no_worse-requires-clause-values
any_no_worse-requires-clause-values c = c.requires.can.hop.bound

pub any_no_worse-requires-clause-value : goal.any_no_worse-requires-clause-value
any_no_worse-requires-clause-value c =
    subst (Admits trip_rules) (sym c.ride-ridden.ensures) (ride_admitted c.args.point.now.value c.requires.admitted)

pub returns-then-any_no_worse : goal.returns-then-any_no_worse
returns-then-any_no_worse c =
    let q = question c.args.asked.now.query in
    let hop = c.args.hop.now in
    let excluded = ap (any_no_worse trip_rules hop.bound.now) (sym c.ride-ridden.ensures) ∙ sym c.any_no_worse.ensures ∙ c.if-any_no_worse.true in
    nothing_taken q hop c.args.self.now c.requires.can (labels_none trip_rules (λ tags way opened. inr excluded))

pub returns : goal.returns
returns c =
    on_ok_weaker c.offer_label.result
    (change_offered (question c.args.asked.now.query) c.args.hop.now c.args.self.now c.requires.can c.args.point.now c.in_ok-step.step c.offer_label.new.self
    c.in_ok-step.ensures (omega (arith, c.if-point-hop.false))) c.offer_label.ensures
