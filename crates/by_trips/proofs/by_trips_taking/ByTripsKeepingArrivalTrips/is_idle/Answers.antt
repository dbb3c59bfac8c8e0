use Rattle.std.proofs.Common.{Contains, subst}
use Rattle.std.proofs.lemmas.Bool.{not-true}
use Rattle.reasoning.proofs.ListLemmas.{not_in_nil}
use Rattle.by_trips.proofs.by_trips_taking.ByTripsKeepingArrivalTrips.is_idle.Goals as goal

pub returns : goal.returns
returns c = λ idle stops trips bound under. record {
  no_labels = c.has_labels.ensures (not-true c.has_labels.result idle);
  leads_nowhere = λ alights.
      let nothing = c.leads_nowhere.ensures c.if-not-leads_nowhere.false alights in
      (nothing.0, λ p h. absurd (not_in_nil p (subst (λ ps. Contains ps p) nothing.1 h)));
}
