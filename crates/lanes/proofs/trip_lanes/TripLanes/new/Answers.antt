use Rattle.std.proofs.Common.{Bool, false, length, sym, ap, ◌∙◌, subst, slice_get}
use Rattle.std.proofs.lemmas.List.{length-replicate}
use Rattle.lanes.specs.LanesWithTags.{AreAllTagged, labels_in}
use Rattle.lanes.specs.declared.trip_lanes.Lanes.{Lanes}
use Rattle.lanes.proofs.WordLemmas.{no_lanes, none_tagged, none_labelled}
use Rattle.lanes.proofs.trip_lanes.TripLanes.new.Goals as goal

pub invariant_of-result : goal.invariant_of-result
invariant_of-result c = record {
  tagged = subst AreAllTagged (sym c.in_ok-lanes.ensures) (none_tagged c.args.count);
  marked = record {
    long = ap length c.in_ok-labelled.ensures ∙ length-replicate {A = Bool} c.args.count false
        ∙ sym (ap length c.in_ok-lanes.ensures ∙ length-replicate {A = Lanes} c.args.count no_lanes);
    none = λ trip _. ap (λ all. labels_in (slice_get all trip)) c.in_ok-lanes.ensures ∙ none_labelled c.args.count trip;
  };
}

pub returns-clause-none : goal.returns-clause-none
returns-clause-none c = λ trip. ap (λ all. labels_in (slice_get all trip)) c.in_ok-lanes.ensures ∙ none_labelled c.args.count trip
