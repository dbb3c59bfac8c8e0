-- One index down: a step keeps the match.
use Rattle.std.proofs.Common.{◌≡◌, ◌≢◌, ◌⊎◌, ℕ, ◌+◌, ◌<◌, ◌≤◌, List, length, Contains, Option, Some, arith, refl, sym, ◌∙◌, ap, subst, inl, inr}
use Rattle.std.proofs.lemmas.Bool.{cases_eq}
use Rattle.criteria.specs.Laws.{Rules, Laws, Admits}
use Rattle.bags.specs.declared.point.Point.{Point}
use Rattle.timetable.specs.TimetableValue.{TimetableValue}
use Rattle.timetable.specs.Journeys.{connection_at}
use Rattle.timetable.proofs.LegalLemmas.{connection_at-stands}
use Rattle.scan_state.specs.SetQuery.{SetQueryValue}
use Rattle.scan_state.specs.Values.{journey_value}
use Rattle.scan_state.specs.Points.{Covers}
use Rattle.scan_state.specs.Continuations.{Aboard, IsOnward, IsAboard, CountsFrom, onward_value, aboard_value}
use Rattle.scan_state.specs.Plain.{IsPlainOnward, IsPlainAboard, IsPlainOf}
use Rattle.scan_state.specs.Matching.{Spelling, Spellings, Keeps, from_to, IsAttained, IsLabelled, IsOutdone, Matches, MatchesBut}
use Rattle.scan_state.specs.Steps.{TakesIn, TakesInBut, MayNotChange, IsOutdoneRidden, leavings, boardings, settings_out, IsStep}
use Rattle.scan_state.specs.SetQuery.{CanScan}
use Rattle.profile_scan.specs.LawStatements.{OneIndexDown, TagsMayCome}
use Rattle.scan_state.proofs.Admitted.{AreAdmitted, attained_admits, onward_admits, aboard_admits, journey_admits}
use Rattle.profile_scan.proofs.Sound.{onward_more, aboard_more, counts_more, leaving_attained, boarding_attained, setting_out_attained}
use Rattle.scan_state.proofs.Outdone.{KeepsCovers, outdone_on}
use Rattle.profile_scan.proofs.Complete.{labels_cover, bag_covers, found_covers}

-- a point attained by ways that are there is attained where more are there, and more is spelled
attained_more : {V X : Type 0} (spelled respelled : ℕ → Option X) (Was IsThere : ℕ → X → Type 0) (IsPlainWay : X
    → Type 0) (value : X → V) → ((departure : ℕ) (x : X) → Was departure x → IsThere departure x) → (p : Point V)
    → ((x : X) → spelled p.tag ≡ Some x → respelled p.tag ≡ Some x) → IsAttained spelled Was IsPlainWay value p
    → IsAttained respelled IsThere IsPlainWay value p
attained_more spelled respelled Was IsThere IsPlainWay value more p stays a =
    record {
      way = a.way;
      spells = stays a.way a.spells;
      there = more p.departure a.way a.there;
      plain =
          a.plain;
      worth = a.worth;
    }

module _ {V : Type 0} (rules : Rules V) (laws : Laws rules) (t : TimetableValue) (q : SetQueryValue) (can : CanScan t q) (i : ℕ) where
  -- a point of a bag, of labels, of the points found
  abbrev InBag : Spelling → ℕ → ℕ → Point V → Type 0
  InBag tags from stop p = IsAttained tags.onward (IsOnward t q from stop) (IsPlainOnward t (Contains q.targets)) (onward_value rules t) p

  abbrev InLabels : Spelling → ℕ → ℕ → Point V → Type 0
  InLabels tags from trip p = IsAttained tags.aboard (IsLabelled t q from trip) (IsPlainAboard t (Contains q.targets)) (aboard_value rules t) p

  abbrev InFound : Spelling → ℕ → Point V → Type 0
  InFound tags from p = IsAttained tags.journey (CountsFrom t q from) (IsPlainOf t (Contains q.targets)) (journey_value rules t) p

  -- all of them, but for what is outdone, in a trip from place n on
  abbrev BagMatches : Spelling → List (Point V) → ℕ → ℕ → List (Point V) → Type 0
  BagMatches tags found from stop points = MatchesBut rules tags.onward (IsOnward t q from stop)
      (IsPlainOnward t (Contains q.targets)) (onward_value rules t) (IsOutdone rules t found from) points

  abbrev LabelsMatch : Spelling → List (Point V) → ℕ → ℕ → ℕ → List (Point V) → Type 0
  LabelsMatch tags found from n trip points =
      MatchesBut rules tags.aboard (IsLabelled t q from trip) (IsPlainAboard t (Contains q.targets)) (aboard_value rules t)
      (λ v. IsOutdone rules t found n (rules.ride v)) points

  abbrev FoundMatches : Spelling → ℕ → List (Point V) → Type 0
  FoundMatches tags from points = Matches rules tags.journey (CountsFrom t q from) (IsPlainOf t (Contains q.targets)) (journey_value rules t) points

  bag_admitted : (tags : Spelling) (from stop : ℕ) (points : List (Point V))
      → ((p : Point V) → Contains points p → InBag tags from stop p) → AreAdmitted rules points
  bag_admitted tags from stop points sound =
      attained_admits rules tags.onward (IsOnward t q from stop) (IsPlainOnward t (Contains q.targets)) (onward_value rules t)
      (λ time x on. onward_admits rules laws t q can from stop time x on) points sound

  labels_admitted : (tags : Spelling) (from trip : ℕ) (points : List (Point V))
      → ((p : Point V) → Contains points p → InLabels tags from trip p) → AreAdmitted rules points
  labels_admitted tags from trip points sound =
      attained_admits rules tags.aboard (IsLabelled t q from trip) (IsPlainAboard t (Contains q.targets)) (aboard_value rules t)
      (λ _ x on. aboard_admits rules laws t q can from trip x on.aboard) points sound

  found_admitted : (tags : Spelling) (from : ℕ) (points : List (Point V)) → ((p : Point V) → Contains points p → InFound tags from p) → AreAdmitted rules points
  found_admitted tags from points sound = attained_admits rules tags.journey (CountsFrom t q from) (IsPlainOf t (Contains q.targets))
      (journey_value rules t) (λ departure j c. journey_admits rules laws t q can departure j c.counts) points sound

  -- labels that were attained later in their trip
  label_stays : (before after : Spelling) (trip : ℕ) → Keeps before after → (p : Point V) → InLabels before (i + 1) trip p → InLabels after i trip p
  label_stays before after trip keeps p a =
      attained_more before.aboard after.aboard (IsLabelled t q (i + 1) trip) (IsLabelled t q i trip) (IsPlainAboard t (Contains q.targets))
      (aboard_value rules t)
      (λ d x l. record { departed = l.departed; aboard = aboard_more t q i trip x l.aboard }) p (keeps.aboard p.tag) a

  aboard_ride_admits : (from trip : ℕ) (x : Aboard) → IsAboard t q from trip x → Admits rules (rules.ride (aboard_value rules t x))
  aboard_ride_admits from trip x a = laws.ride_admits (aboard_value rules t x) (aboard_admits rules laws t q can from trip x a)

  -- the labels of the connection's trip
  pub labels_down : (tags : Spellings) → Keeps tags.earlier tags.later → (found bag old new : List (Point V))
      → i < length t.connections → AreAdmitted rules found
      → BagMatches tags.earlier found (i + 1) (connection_at t i).to bag
      → LabelsMatch tags.earlier found (i + 1) (i + 1) (connection_at t i).trip old
      → TakesInBut rules (MayNotChange (IsOutdoneRidden rules t found i)) (leavings rules t q tags i bag) old new
      → LabelsMatch tags.later found i (i + 1) (connection_at t i).trip new
  labels_down tags keeps found bag old new in_i found_adm bag_is old_is takes =
      let trip = (connection_at t i).trip in
      let sound : (p : Point V) → Contains new p → InLabels tags.later i trip p = λ p is. elim (takes.only p is) [
        | inl was ↦ label_stays tags.earlier tags.later trip keeps p (old_is.sound p was)
        | inr offered ↦ leaving_attained rules t q tags i bag in_i bag_is.sound p offered
      ] in
      let admitted = labels_admitted tags.later i trip new sound in
      let bag_adm = bag_admitted tags.earlier (i + 1) (connection_at t i).to bag bag_is.sound in
      record {
        sound = sound;
        complete = λ departure x l.
            let covered = labels_cover rules laws t q can i found bag new found_adm admitted bag_adm
            (λ y a. elim (old_is.complete 0 y (record { departed = refl; aboard = a })) [
              | inl c ↦ inl (takes.kept 0 (aboard_value rules t y) (aboard_admits rules laws t q can (i + 1) trip y a) c)
              | inr o ↦ inr o
            ])
            (λ way alights may. takes.covered way (alights, may))
            bag_is.complete x in_i l.aboard in
            subst (λ (n : ℕ). Covers rules new n (aboard_value rules t x)
            ⊎ IsOutdone rules t found (i + 1) (rules.ride (aboard_value rules t x))) (sym l.departed) covered;
      }

  -- the labels of a trip, where tags come to spell more, points are found, and fewer connections are to come
  pub labels_kept : (before after : Spelling) (found now : List (Point V)) (n m trip : ℕ) (points : List (Point V))
      → Keeps before after → KeepsCovers rules found now → m ≤ n → LabelsMatch before found i n trip points
      → LabelsMatch after now i m trip points
  labels_kept before after found now n m trip points keeps kept le is = record {
    sound = λ p in_points. attained_more before.aboard after.aboard (IsLabelled t q i trip) (IsLabelled t q i trip)
        (IsPlainAboard t (Contains q.targets)) (aboard_value rules t) (λ d x l. l) p (keeps.aboard p.tag) (is.sound p in_points);
    complete = λ departure x l. elim (is.complete departure x l) [
      | inl c ↦ inl c
      | inr o ↦ inr (outdone_on rules laws t found now n m (rules.ride (aboard_value rules t x)) (aboard_ride_admits i trip x l.aboard) le kept o)
    ];
  }

  -- the labels of another trip
  pub other_labels : (before after : Spelling) (found now : List (Point V)) (trip : ℕ) (points : List (Point V))
      → Keeps before after → KeepsCovers rules found now → trip ≢ (connection_at t i).trip
      → LabelsMatch before found (i + 1) (i + 1) trip points → LabelsMatch after now i i trip points
  other_labels before after found now trip points keeps kept other is = record {
    sound = λ p in_points. label_stays before after trip keeps p (is.sound p in_points);
    complete = λ departure x l.
        let a = l.aboard in
        let not_here : x.last ≢ i = λ e. other (sym a.on_trip ∙ ap (λ (n : ℕ). (connection_at t n).trip) e) in
        elim (is.complete departure x (record {
          departed = l.departed;
          aboard = record {
            later = let later_is = a.later in omega arith;
            in_range = a.in_range;
            on_trip =
                a.on_trip;
            alights = a.alights;
            is_walk = a.is_walk;
            walks = a.walks;
            goal = a.goal;
            is_goal = a.is_goal;
            leads =
                a.leads;
            arrives = a.arrives;
          };
        })) [
          | inl c ↦ inl c
          | inr o ↦ inr (outdone_on rules laws t found now (i + 1) i (rules.ride (aboard_value rules t x)) (aboard_ride_admits i trip x a) (omega arith) kept o)
        ];
  }

  -- the bag of a stop, its points having been spelled earlier still, when fewer points were found
  pub bag_down : (first : Spelling) (tags : Spellings) (found now : List (Point V)) (stop : ℕ)
      (labels old new : List (Point V)) → Keeps first tags.earlier → Keeps tags.earlier tags.later
      → KeepsCovers rules found now → AreAdmitted rules now
      → LabelsMatch tags.earlier now i (i + 1) (connection_at t i).trip labels → BagMatches first found (i + 1) stop old
      → TakesInBut rules (λ way. IsOutdoneRidden rules t now i way.label.value) (boardings rules t tags i stop labels) old new
      → BagMatches tags.later now i stop new
  bag_down first tags found now stop labels old new kept_first kept_then kept now_adm labels_are old_is takes =
      let trip = (connection_at t i).trip in
      let sound : (p : Point V) → Contains new p → InBag tags.later i stop p = λ p is. elim (takes.only p is) [
        | inl was ↦ attained_more first.onward tags.later.onward (IsOnward t q (i + 1) stop) (IsOnward t q i stop)
            (IsPlainOnward t (Contains q.targets)) (onward_value rules t) (onward_more t q i stop) p
            (λ x e. kept_then.onward p.tag x (kept_first.onward p.tag x e)) (old_is.sound p was)
        | inr offered ↦ boarding_attained rules t q tags i stop labels labels_are.sound p offered
      ] in
      record {
        sound = sound;
        complete = λ time x on.
            bag_covers rules laws t q can i now stop labels new now_adm
            (labels_admitted tags.earlier i trip labels labels_are.sound) (bag_admitted tags.later i stop new sound)
            (λ y a. labels_are.complete 0 y (record { departed = refl; aboard = a }))
            (λ d y on_y.
            let admits = onward_admits rules laws t q can (i + 1) stop d y on_y in
            elim (old_is.complete d y on_y) [
              | inl c ↦ inl (takes.kept d (onward_value rules t y) admits c)
              | inr o ↦ inr (outdone_on rules laws t found now (i + 1) i (onward_value rules t y) admits (omega arith) kept o)
            ])
            takes.covered time x.walk x.rides on;
      }

  -- the points found: what is outdone they cover themselves
  pub found_down : (first : Spelling) (tags : Spellings) (labels old new : List (Point V)) → Keeps first tags.earlier
      → Keeps tags.earlier tags.later → LabelsMatch tags.earlier new i (i + 1) (connection_at t i).trip labels
      → FoundMatches first (i + 1) old → TakesIn rules (settings_out rules t q tags i labels) old new
      → FoundMatches tags.later i new
  found_down first tags labels old new kept_first kept_then labels_are old_is takes =
      let trip = (connection_at t i).trip in
      let sound : (p : Point V) → Contains new p → InFound tags.later i p = λ p is. elim (takes.only p is) [
        | inl was ↦ attained_more first.journey tags.later.journey (CountsFrom t q (i + 1)) (CountsFrom t q i)
            (IsPlainOf t (Contains q.targets)) (journey_value rules t) (counts_more t q i) p
            (λ j e. kept_then.journey p.tag j (kept_first.journey p.tag j e)) (old_is.sound p was)
        | inr offered ↦ setting_out_attained rules t q tags i labels labels_are.sound p offered
      ] in
      record {
        sound = sound;
        complete = λ departure j c.
            found_covers rules laws t q can i labels new (labels_admitted tags.earlier i trip labels labels_are.sound) (found_admitted tags.later i new sound)
            (λ y a. labels_are.complete 0 y (record { departed = refl; aboard = a }))
            (λ d k c_k. takes.kept d (journey_value rules t k) (journey_admits rules laws t q can d k c_k.counts) (old_is.complete d k c_k))
            takes.covered departure j.start j.rides c;
      }

pub keeps_none : (a : Spelling) → Keeps a a
keeps_none a = record { onward = λ tag x e. e; aboard = λ tag x e. e; journey = λ tag j e. e }

keeps_on : (a b c : Spelling) → Keeps a b → Keeps b c → Keeps a c
keeps_on a b c first second = record {
  onward = λ tag x e. second.onward tag x (first.onward tag x e);
  aboard = λ tag x e. second.aboard tag x (first.aboard tag x e);
  journey = λ tag j e. second.journey tag j (first.journey tag j e);
}

pub one_index_down : {V : Type 0} (rules : Rules V) → Laws rules → OneIndexDown rules (IsStep rules)
one_index_down rules laws t q can tags i in_i old new matched step =
    let c = connection_at t i in
    let stands = connection_at-stands t i in_i in
    let ends_at = (can.legal.stops_in_range i c stands).1 in
    let on_trip = can.legal.trips_in_range i c stands in
    let first = from_to tags.earlier step.between in
    let second = from_to step.between tags.later in
    let found_adm = found_admitted rules laws t q can i tags.earlier (i + 1) old.found matched.at_source.sound in
    let kept = step.sets_out.kept in
    let later = labels_down rules laws t q can i first step.kept_first old.found (old.bag c.to)
    (old.labels c.trip) (new.labels c.trip) in_i found_adm (matched.at_stops c.to ends_at)
    (matched.in_trips c.trip on_trip) step.leaves in
    let labels = labels_kept rules laws t q can i step.between step.between old.found new.found (i + 1) (i + 1) c.trip
    (new.labels c.trip) (keeps_none step.between) kept (omega arith) later in
    let at_source = found_down rules laws t q can i tags.earlier second (new.labels c.trip) old.found new.found
    step.kept_first step.kept_then labels matched.at_source step.sets_out in
    let now_adm = found_admitted rules laws t q can i tags.later i new.found at_source.sound in
    record {
      at_stops = λ stop in_stops. bag_down rules laws t q can i tags.earlier second old.found new.found stop
          (new.labels c.trip) (old.bag stop) (new.bag stop) step.kept_first step.kept_then kept now_adm
          labels (matched.at_stops stop in_stops) (step.boards stop in_stops);
      in_trips = λ trip in_trips. elim (cases_eq trip c.trip) [
        | inl same ↦ subst (λ (k : ℕ). MatchesBut rules tags.later.aboard (IsLabelled t q i k)
            (IsPlainAboard t (Contains q.targets)) (aboard_value rules t) (λ v. IsOutdone rules t new.found i (rules.ride v))
            (new.labels k)) (sym same)
            (labels_kept rules laws t q can i step.between tags.later new.found new.found (i + 1) i c.trip
            (new.labels c.trip) step.kept_then (λ d w b covers. covers) (omega arith) labels)
        | inr other ↦ subst (λ points. MatchesBut rules tags.later.aboard (IsLabelled t q i trip)
            (IsPlainAboard t (Contains q.targets)) (aboard_value rules t) (λ v. IsOutdone rules t new.found i (rules.ride v))
            points) (sym (step.other_trips trip other))
            (other_labels rules laws t q can i tags.earlier tags.later old.found new.found trip (old.labels trip)
            (keeps_on tags.earlier step.between tags.later step.kept_first step.kept_then) kept other
            (matched.in_trips trip in_trips))
      ];
      at_source = at_source;
    }

-- points match under each spelling by which their tags spell the same
respelled : {V X : Type 0} (rules : Rules V) (a b : ℕ → Option X) (IsThere : ℕ → X → Type 0) (IsPlainWay : X
    → Type 0) (value : X → V) (points : List (Point V))
    → ((p : Point V) (x : X) → Contains points p → a p.tag ≡ Some x → b p.tag ≡ Some x)
    → Matches rules a IsThere IsPlainWay value points → Matches rules b IsThere IsPlainWay value points
respelled rules a b IsThere IsPlainWay value points stay is = record {
  sound = λ p in_points. attained_more a b IsThere IsThere IsPlainWay value (λ d x there. there) p (λ x e. stay p x in_points e) (is.sound p in_points);
  complete = is.complete;
}

respelled_but : {V X : Type 0} (rules : Rules V) (a b : ℕ → Option X) (IsThere : ℕ → X → Type 0) (IsPlainWay : X
    → Type 0) (value : X → V) (Outdone : V → Type 0) (points : List (Point V))
    → ((p : Point V) (x : X) → Contains points p → a p.tag ≡ Some x → b p.tag ≡ Some x)
    → MatchesBut rules a IsThere IsPlainWay value Outdone points
    → MatchesBut rules b IsThere IsPlainWay value Outdone points
respelled_but rules a b IsThere IsPlainWay value Outdone points stay is = record {
  sound = λ p in_points. attained_more a b IsThere IsThere IsPlainWay value (λ d x there. there) p (λ x e. stay p x in_points e) (is.sound p in_points);
  complete = is.complete;
}

pub more_tags_keep_matches : {V : Type 0} (rules : Rules V) → TagsMayCome rules
more_tags_keep_matches rules t q a b i scan stay is = record {
  at_stops = λ stop in_stops. respelled_but rules a.onward b.onward (IsOnward t q i stop) (IsPlainOnward t (Contains q.targets))
      (onward_value rules t) (IsOutdone rules t scan.found i) (scan.bag stop) (stay.at_stops stop)
      (is.at_stops stop in_stops);
  in_trips = λ trip in_trips. respelled_but rules a.aboard b.aboard (IsLabelled t q i trip) (IsPlainAboard t (Contains q.targets))
      (aboard_value rules t) (λ v. IsOutdone rules t scan.found i (rules.ride v)) (scan.labels trip)
      (stay.in_trips trip) (is.in_trips trip in_trips);
  at_source = respelled rules a.journey b.journey (CountsFrom t q i) (IsPlainOf t (Contains q.targets))
      (journey_value rules t) scan.found stay.at_source is.at_source;
}
