use Rattle.std.proofs.Common.{◌≡◌, true, refl, ap, sym, ◌∙◌, subst}
use Rattle.std.proofs.lemmas.Bool.{true≢false}
use Rattle.reasoning.proofs.ListLemmas.{extends_none, extends_one}
use Rattle.fronts.specs.Labels.{labels_at}
use Rattle.fronts.specs.Lists.{steps_of}
use Rattle.scan_state.specs.Adding.{label_points, one_way}
use Rattle.scan_state.specs.Matching.{Spellings, from_to}
use Rattle.scan_state.specs.ScanRecords.{IsExit, spelling_of}
use Rattle.scan_state.specs.Steps.{TakesInBut}
use Rattle.scan_state.proofs.LabelLemmas.{offered_takes, trip_admitted}
use Rattle.scan_state.proofs.Offers.{takes_but}
use Rattle.scan_state.proofs.ScanRecordLemmas.{exit_next}
use Rattle.scan_state.proofs.trips.Trips.offer.Given as given
use Rattle.scan_state.proofs.trips.Trips.offer.Goals.{In_ok-stands}
use Rattle.scan_state.proofs.trips.Trips.offer.Goals as goal

-- the labels take the value in
taken : (g : given.Over) (c : goal.In_ok-stands g) (tags : Spellings) → (c.in_ok-stands.stands ≡ true → IsExit tags c.args.exit c.len-tag.result)
    → TakesInBut (g.C.Criterion.rules c.args.criterion.now) (λ _. ⊥) (one_way 0 c.args.value (IsExit tags c.args.exit))
    (label_points (labels_at c.args.self.now.labels c.args.trip)) (label_points (labels_at c.offer_label.new.labels c.args.trip))
taken g c tags named =
    let rules = g.C.Criterion.rules c.args.criterion.now in
    let old = labels_at c.args.self.now.labels c.args.trip in
    let new = labels_at c.offer_label.new.labels c.args.trip in
    let fits = IsExit tags c.args.exit in
    takes_but rules (λ _. ⊥) (one_way 0 c.args.value fits) (label_points old) (label_points new)
    (offered_takes rules (g.met.C.Criterion.laws c.args.criterion.now) old new c.args.value c.len-tag.result fits c.in_ok-stands.stands
    (trip_admitted rules c.args.self.now.labels c.requires.trip.sound c.args.trip) c.requires.admitted c.in_ok-stands.ensures.taken.judged
    c.in_ok-stands.ensures.taken.taken named)

pub returns-in_ok-append : goal.returns-in_ok-append
returns-in_ok-append g c =
    let exits = c.args.self.now.exits.items in
    let added = c.in_ok-append.ensures.added in
    record {
      labels = c.in_ok-stands.ensures.labels;
      takes = λ stops. record {
        exits = extends_one exits c.append.new.items.items c.args.exit added;
        steps = refl;
        bags = λ stop. refl;
        other_trips = λ k other. ap label_points (c.in_ok-stands.ensures.taken.elsewhere k other);
        takes = λ walks set_outs before all first_grows then_grows.
            let tags = from_to (spelling_of walks before) (spelling_of walks all) in
            taken g (goal.at.returns-in_ok-append g c).In_ok-stands tags (λ _. subst (IsExit tags c.args.exit)
            (sym (c.len-tag.ensures ∙ c.args.self.now.exits.ok.0)) (exit_next walks exits c.append.new.items.items (steps_of stops.lists) set_outs before all
            c.args.exit added first_grows then_grows));
      };
    }

pub returns-else-stands : goal.returns-else-stands
returns-else-stands g c = record {
  labels = c.in_ok-stands.ensures.labels;
  takes = λ stops. record {
    exits = extends_none c.args.self.now.exits.items;
    steps = refl;
    bags = λ stop. refl;
    other_trips = λ k other. ap label_points (c.in_ok-stands.ensures.taken.elsewhere k other);
    takes = λ walks set_outs before all first_grows then_grows.
        taken g (goal.at.returns-else-stands g c).In_ok-stands (from_to (spelling_of walks before) (spelling_of walks all))
        (λ is. absurd (true≢false (sym is ∙ c.if-stands.false)));
  };
}
