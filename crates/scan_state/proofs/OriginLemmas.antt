-- The points found from each stop, when one more sets out.
use Rattle.std.proofs.Common.{◌≡◌, ◌≢◌, ℕ, ◌+◌, ◌-◌, ◌<◌, ◌≤◌, List, [], ◌∷◌, ◌++◌, length, set, Option, Some, None, slice_get, sym, ◌∙◌, ap}
use Rattle.std.proofs.Common.{subst, inl, inr, arith, length-set}
use Rattle.std.proofs.lemmas.Bool.{cases_eq}
use Rattle.std.proofs.lemmas.Option.{same_Some, slice_get_within, slice_get_cases, slice_get_past}
use Rattle.std.proofs.lemmas.List.{length_push}
use Rattle.reasoning.proofs.ListLemmas.{contains_first, contains_only, extends_none, slice_get-front, slice_get-last, slice_get-set_same}
use Rattle.reasoning.proofs.ListLemmas.{slice_get-set_other}
use Rattle.criteria.specs.Laws.{Rules}
use Rattle.bags.specs.Bag.{criterion_of, points_of}
use Rattle.bags.specs.Dominance.{IsBag}
use Rattle.bags.specs.declared.point.Point.{Point}
use Rattle.timetable.specs.declared.network.Connection.{Connection}
use Rattle.timetable.specs.declared.network.Footpath.{Footpath}
use Rattle.timetable.specs.Journeys.{start_secs}
use Rattle.fronts.specs.Front.{Extends}
use Rattle.scan_state.specs.SetQuery.{SetQueryValue}
use Rattle.scan_state.specs.Matching.{Spellings, from_to}
use Rattle.scan_state.specs.Steps.{Offer, TakesIn}
use Rattle.scan_state.specs.ScanRecords.{SourceValue, spelling_of}
use Rattle.scan_state.specs.Adding.{IsInTime, MayStart, settings_out_after, settings_out_by}
use Rattle.scan_state.specs.Parts.{SourceTakes}
use Rattle.scan_state.specs.Origins.{IsLoop, AreOrigins, AreUnder, found_by, found_from, from_stop, kept_of}
use Rattle.scan_state.specs.Origins.{set_outs_by, starts_at}
use Rattle.scan_state.specs.declared.origin.Origin.{Origin}
use Rattle.scan_state.specs.declared.origins.Origins.{Origins}
use Rattle.scan_state.specs.declared.origin.SourceDeparture.{SourceDeparture}
use Rattle.scan_state.proofs.Offers.{takes_if, takes_unless}

-- one sets out by a start from the stop where it begins, and from no other
pub other_start : (q : SetQueryValue) (c : Connection) (start : Option Footpath) (stop : ℕ) → stop ≢ starts_at c start → MayStart (from_stop q stop) c start → ⊥
other_start q c None stop other may = other (sym (contains_only stop c.from may.starts))
other_start q c (Some walk) stop other may = other (sym (contains_only stop walk.from may.starts.0))

-- from there one does, unless the start is a loop
pub own_start : (q : SetQueryValue) (c : Connection) (start : Option Footpath) → (IsLoop start → ⊥) → IsInTime q.from q.until c start
    → MayStart (from_stop q (starts_at c start)) c start
own_start q c None loop is = record { starts = contains_first c.from []; in_time = is }
own_start q c (Some walk) loop is = record { starts = (contains_first walk.from [], loop); in_time = is }

-- no start is a loop
pub no_loop : (q : SetQueryValue) (c : Connection) (start : Option Footpath) → IsLoop start → MayStart q c start → ⊥
no_loop q c None loop may = loop
no_loop q c (Some walk) loop may = may.starts.1 loop

-- what is kept for a stop, if there is one
abbrev value_by : {K V : Type 0} {d : _} → Option (Origin K V d) → SourceValue V
value_by o = record { found = found_by o; set_outs = set_outs_by o }

-- one of a list has changed
module _ {K V : Type 0} {d : _} (stop : ℕ) (olds news : List (Origin K V d)) (a b : Origin K V d) (at : slice_get olds stop ≡ Some a)
    (is : news ≡ set olds stop b) where
  set_there : slice_get news stop ≡ Some b
  set_there = ap (λ (xs : List (Origin K V d)). slice_get xs stop) is ∙ slice_get-set_same olds stop b (slice_get_within olds stop a at)

  set_others : (k : ℕ) → k ≢ stop → slice_get news k ≡ slice_get olds k
  set_others k other = ap (λ (xs : List (Origin K V d)). slice_get xs k) is ∙ slice_get-set_other olds stop k b other

  source_takes : {A : Type 0} (rules : Rules V) (walks : List Footpath) (offer : Spellings → Offer A V)
      → SourceTakes rules walks offer (kept_of a) (kept_of b)
      → SourceTakes rules walks offer (value_by (slice_get olds stop)) (value_by (slice_get news stop))
  source_takes rules walks offer takes =
      subst (λ (o : Option (Origin K V d)). SourceTakes rules walks offer (value_by o) (value_by (slice_get news stop))) (sym at)
      (subst (λ (o : Option (Origin K V d)). SourceTakes rules walks offer (kept_of a) (value_by o)) (sym set_there) takes)

  pub set_extends : Extends a.set_outs.items b.set_outs.items → (k : ℕ) → Extends (set_outs_by (slice_get olds k)) (set_outs_by (slice_get news k))
  set_extends ext k = elim (cases_eq k stop) [
    | inl same ↦
        subst (λ n. Extends (set_outs_by (slice_get olds n)) (set_outs_by (slice_get news n))) (sym same)
        (subst (λ (o : Option (Origin K V d)). Extends (set_outs_by (slice_get olds stop)) (set_outs_by o)) (sym set_there)
        (subst (λ (o : Option (Origin K V d)). Extends (set_outs_by o) b.set_outs.items) (sym at) ext))
    | inr other ↦ subst (λ (o : Option (Origin K V d)). Extends (set_outs_by (slice_get olds k)) (set_outs_by o)) (sym (set_others k other))
        (extends_none (set_outs_by (slice_get olds k)))
  ]

-- what a start offers
module _ {V : Type 0} (rules : Rules V) (walks : List Footpath) (place : ℕ) (c : Connection) (labels : List (Point V)) (start : Option Footpath) where
  abbrev ByStart : SetQueryValue → SourceValue V → SourceValue V → Type 0
  ByStart q = SourceTakes rules walks (λ tags. settings_out_by rules tags place c q labels start)

  -- is taken in by its departure
  pub started_takes : (q : SetQueryValue) (departure : SourceDeparture) (old new : SourceValue V) → MayStart q c start → departure.start ≡ start
      → departure.time ≡ c.dep - start_secs start
      → SourceTakes rules walks (λ tags. settings_out_after rules tags place departure.time departure.start labels) old new → ByStart q old new
  started_takes q departure old new may start_is time_is takes exits steps before all ext_before ext =
      let tags = from_to (spelling_of walks before) (spelling_of walks all) in
      takes_if rules (MayStart q c start) (settings_out_after rules tags place (c.dep - start_secs start) start labels) old.found new.found may
      (subst (λ (s : Option Footpath). TakesIn rules (settings_out_after rules tags place (c.dep - start_secs start) s labels) old.found new.found) start_is
      (subst (λ (n : ℕ). TakesIn rules (settings_out_after rules tags place n departure.start labels) old.found new.found) time_is
      (takes exits steps before all ext_before ext)))

  -- is nothing, if it may not be
  pub none_started : (q : SetQueryValue) (value : SourceValue V) → (MayStart q c start → ⊥) → ByStart q value value
  none_started q value fails exits steps before all ext_before ext =
      takes_unless rules (MayStart q c start) (settings_out_after rules (from_to (spelling_of walks before) (spelling_of walks all)) place
      (c.dep - start_secs start) start labels) value.found fails

  -- from one stop, and nothing from others
  pub stop_takes : {K : Type 0} {d : _} (q : SetQueryValue) (departure : SourceDeparture) (stop : ℕ) (olds news : List (Origin K V d)) (a b : Origin K V d)
      → stop ≡ starts_at c start → (IsLoop start → ⊥) → IsInTime q.from q.until c start → departure.start ≡ start
      → departure.time ≡ c.dep - start_secs start → slice_get olds stop ≡ Some a → news ≡ set olds stop b
      → SourceTakes rules walks (λ tags. settings_out_after rules tags place departure.time departure.start labels) (kept_of a) (kept_of b)
      → (k : ℕ) → ByStart (from_stop q k) (value_by (slice_get olds k)) (value_by (slice_get news k))
  stop_takes {K} {d} q departure stop olds news a b stop_is no_loop is start_is time_is at set_is takes k = elim (cases_eq k stop) [
    | inl here ↦ subst (λ n. ByStart (from_stop q n) (value_by (slice_get olds n)) (value_by (slice_get news n))) (sym here)
        (started_takes (from_stop q stop) departure (value_by (slice_get olds stop)) (value_by (slice_get news stop))
        (subst (λ n. MayStart (from_stop q n) c start) (sym stop_is) (own_start q c start no_loop is)) start_is time_is
        (source_takes stop olds news a b at set_is rules walks
        (λ tags. settings_out_after rules tags place departure.time departure.start labels) takes))
    | inr other ↦ subst (λ (o : Option (Origin K V d)). ByStart (from_stop q k) (value_by (slice_get olds k)) (value_by o))
        (sym (set_others stop olds news a b at set_is k other))
        (none_started (from_stop q k) (value_by (slice_get olds k)) (other_start q c start k (λ e. other (e ∙ sym stop_is))))
  ]

-- stops without points
pub record AreNew {K V : Type 0} {d : _} (criterion : K) (count : ℕ) (each : List (Origin K V d)) : Type 0 where
  pub long : length each ≡ count
  pub under : (stop : ℕ) (origin : Origin K V d) → slice_get each stop ≡ Some origin → criterion_of origin.found ≡ criterion
  pub none : (stop : ℕ) (origin : Origin K V d) → slice_get each stop ≡ Some origin → points_of origin.found ≡ []

pub new_none : {K V : Type 0} {d : _} (criterion : K) (each : List (Origin K V d)) → each ≡ [] → AreNew criterion 0 each
new_none {K} {V} {d} criterion each is =
    let nothing : (stop : ℕ) (origin : Origin K V d) → slice_get each stop ≡ Some origin → ⊥ =
    λ stop origin at. let within = slice_get_within each stop origin at in let long = ap length is in omega (arith, within, long) in
    record { long = ap length is; under = λ stop origin at. absurd (nothing stop origin at); none = λ stop origin at. absurd (nothing stop origin at) }

pub new_more : {K V : Type 0} {d : _} (criterion : K) (count : ℕ) (old new : List (Origin K V d)) (x : Origin K V d) → AreNew criterion count old
    → criterion_of x.found ≡ criterion → points_of x.found ≡ [] → new ≡ old ++ x ∷ [] → AreNew criterion (count + 1) new
new_more {K} {V} {d} criterion count old new x was under none is =
    let was_long = was.long in
    let long = ap length is ∙ length_push old x in
    let was_or_x : (P : Origin K V d → Type 0) → ((stop : ℕ) (origin : Origin K V d) → slice_get old stop ≡ Some origin → P origin) → P x → (stop : ℕ)
    (origin : Origin K V d) → slice_get new stop ≡ Some origin → P origin =
    λ P before now stop origin at. elim (cases_eq stop (length old)) [
      | inl last ↦
          let there = ap (λ (xs : List (Origin K V d)). slice_get xs stop) is ∙ ap (λ n. slice_get (old ++ x ∷ []) n) last ∙ slice_get-last old x in
          subst P (same_Some x origin (sym there ∙ at)) now
      | inr other ↦
          let within = slice_get_within new stop origin at in
          let below : stop < length old = omega (arith, within, other, long) in
          before stop origin (sym (slice_get-front old (x ∷ []) stop below) ∙ sym (ap (λ (xs : List (Origin K V d)). slice_get xs stop) is) ∙ at)
    ] in
    record {
      long = long ∙ ap (λ n. n + 1) was_long;
      under = was_or_x (λ o. criterion_of o.found ≡ criterion) was.under under;
      none = was_or_x (λ o. points_of o.found ≡ []) was.none none;
    }

-- so nothing was found from any stop
pub new_found : {K V : Type 0} {d : _} (criterion : K) (count : ℕ) (origins : Origins K V d) → AreNew criterion count origins.each.items → (stop : ℕ)
    → found_from origins stop ≡ []
new_found {K} {V} {d} criterion count origins are stop = elim (slice_get_cases origins.each.items stop).1 [
  | inl there ↦ ap (found_by {K = K} {V = V} {c = d}) there.2 ∙ are.none stop there.0 there.2
  | inr past ↦ ap (found_by {K = K} {V = V} {c = d}) past.1
]

-- past the last stop nothing was found
pub found_past : {K V : Type 0} {d : _} (origins : Origins K V d) (stop : ℕ) → length origins.each.items ≤ stop → found_from origins stop ≡ []
found_past {K} {V} {d} origins stop past = ap (found_by {K = K} {V = V} {c = d}) (slice_get_past origins.each.items stop past)

-- of each stop the points are a bag
pub found_bag : {K V : Type 0} {d : _} (criterion : K) (origins : Origins K V d) → AreUnder criterion origins → (stop : ℕ)
    → IsBag (d.rules criterion) (found_from origins stop)
found_bag {K} {V} {d} criterion origins under stop = elim (slice_get_cases origins.each.items stop).1 [
  | inl there ↦ subst (λ (o : Option (Origin K V d)). IsBag (d.rules criterion) (found_by o)) (sym there.2)
      (subst (λ k. IsBag (d.rules k) (points_of there.0.found)) (under stop there.0 there.2) there.0.found.kept)
  | inr past ↦ subst (λ (o : Option (Origin K V d)). IsBag (d.rules criterion) (found_by o)) (sym past.1) none_is_bag
]
  where
    none_is_bag : IsBag (d.rules criterion) []
    none_is_bag = record { admitted = λ p h. let lt = h.1 in absurd (omega (arith, lt)); undominated = λ i j e lt within. absurd (omega (arith, within)) }

-- where one stop has changed, all stay under the criterion
module _ {K V : Type 0} {d : _} (stop : ℕ) (old new : Origins K V d) (a b : Origin K V d) (at : slice_get old.each.items stop ≡ Some a)
    (is : new.each.items ≡ set old.each.items stop b) (criterion : K) (now : criterion_of b.found ≡ criterion) where
  set_under : AreUnder criterion old → AreUnder criterion new
  set_under are k o at_k = elim (cases_eq k stop) [
    | inl same ↦
        let at_stop : slice_get new.each.items stop ≡ Some o = subst (λ n. slice_get new.each.items n ≡ Some o) same at_k in
        subst (λ (x : Origin K V d). criterion_of x.found ≡ criterion)
        (same_Some b o (sym (set_there stop old.each.items new.each.items a b at is) ∙ at_stop)) now
    | inr other ↦ are k o (sym (set_others stop old.each.items new.each.items a b at is k other) ∙ at_k)
  ]

  pub still_under : (stops : ℕ) → AreOrigins criterion stops old × ((k : ℕ) → IsBag (d.rules criterion) (found_from old k))
      → AreOrigins criterion stops new × ((k : ℕ) → IsBag (d.rules criterion) (found_from new k))
  still_under stops was =
      let under = set_under was.0.under in
      (record { long = ap length is ∙ length-set old.each.items stop b ∙ was.0.long; under = under }, found_bag criterion new under)
