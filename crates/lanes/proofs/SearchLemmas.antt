-- Searches along a list, and what a found entry's front stands for.
use Rattle.std.proofs.Common.{◌≡◌, ℕ, ◌<◌, ◌≤◌, List, [], ◌∷◌, ◌++◌, length, Contains, slice_get, get_or, refl, sym, ap, subst, arith}
use Rattle.reasoning.proofs.ListLemmas.{not_in_nil}
use Rattle.criteria.specs.declared.arrival_trips.TimeTrips.{TimeTrips}
use Rattle.bags.specs.declared.point.Point.{Point}
use Rattle.fronts.specs.declared.labels.Label.{Label}
use Rattle.lanes.specs.Lanes.{never, IsBeaten}
use Rattle.lanes.specs.LaneLists.{word_tag, departure_in, next_in, words_in, tags_in, departure_of, next_of, labels_of, points_from}
use Rattle.lanes.specs.LaneLists.{AreLists, HasList, IsPath, DepartBefore, PassesTo, IsLate}
use Rattle.lanes.specs.declared.lane_lists.LaneEntry.{LaneEntry}
use Rattle.lanes.proofs.LaneLemmas.{beaten_at}
use Rattle.std.proofs.lemmas.Option.{slice_get-get_or}
use Rattle.fronts.proofs.Chains.{path_push, before_push}
use Rattle.lanes.proofs.EntryLemmas.{next_within, next_less, not_end, path_on, path_past}
use Rattle.lanes.proofs.CoverLemmas.{nine, owner, along}

-- on the way from `head` to the first entry that departs at a time or later
pub record LeadsTo (entries : List LaneEntry) (head time : ℕ) (passed : List ℕ) (m : ℕ) : Type 0 where
  pub within : m < length entries
  pub path : IsPath entries head passed m
  pub early : DepartBefore entries time passed

pub leads_first : (entries : List LaneEntry) (head time : ℕ) → HasList entries head → LeadsTo entries head time [] head
leads_first entries head time has = record { within = has.within; path = refl; early = λ b h. absurd (not_in_nil b h) }

-- an entry that departs too early is passed
pub leads_on : (entries : List LaneEntry) (head time : ℕ) (passed : List ℕ) (m : ℕ) (e f : LaneEntry) → AreLists entries
    → LeadsTo entries head time passed m → (get_or entries m e).departure < time → time ≤ never
    → LeadsTo entries head time (passed ++ m ∷ []) (get_or entries m f).next × ((get_or entries m f).next < m)
leads_on entries head time passed m e f are leads early most =
    let departs : departure_of entries m < time =
    subst (λ n. n < time) (sym (ap departure_in (slice_get-get_or entries m e leads.within))) early in
    let next : next_of entries m ≡ (get_or entries m f).next = ap next_in (slice_get-get_or entries m f leads.within) in
    let some = not_end entries are m time departs most in (
      record {
        within = subst (λ n. n < length entries) next (next_within entries are m leads.within);
        path = path_push (next_of entries) (length entries) head passed m (get_or entries m f).next leads.path some leads.within next;
        early = before_push (departure_of entries) time passed m leads.early departs;
      },
      subst (λ n. n < m) next (next_less entries are m some),
    )

pub passes_to : (entries : List LaneEntry) (head time : ℕ) (passed : List ℕ) (m : ℕ) (e : LaneEntry) → LeadsTo entries head time passed m
    → time ≤ (get_or entries m e).departure → PassesTo entries head time passed m
passes_to entries head time passed m e leads late = record {
  within = leads.within;
  path = leads.path;
  early = leads.early;
  late = subst (λ n. time ≤ n) (sym (ap departure_in (slice_get-get_or entries m e leads.within))) late;
}

module _ (entries : List LaneEntry) (are : AreLists entries) (head time m : ℕ) (late : IsLate entries head time m) where
  -- each label of the front is a point that departs at the time or later
  pub front_made_of : (l : Label TimeTrips) → Contains (labels_of (slice_get entries m)) l
      → (p : Point TimeTrips) × Contains (points_from entries head) p × (time ≤ p.departure) × (p.value ≡ l.value) × (p.tag ≡ l.tag)
  front_made_of l is =
      let p = owner entries are m m l (omega arith) late.1.within is in
      let up = late.1.late in
      let later = p.2 in
      (p.0, path_on entries are late.0 head m p.0 late.1.path p.1, omega (arith, up, later), p.3, p.4)

  -- each such point is beaten by a label of the front
  pub front_betters : (p : Point TimeTrips) → Contains (points_from entries head) p → time ≤ p.departure
      → IsBeaten (labels_of (slice_get entries m)) p.value
  front_betters p is later =
      let a = along entries are m m p (omega arith) late.1.within
      (path_past entries are time late.0 head m p late.1.path late.1.early is later) in
      let long = (nine entries are m late.1.within).long in
      let few = a.few in
      beaten_at (word_tag (tags_in (slice_get entries m))) (words_in (slice_get entries m)) p.value p.value.trips (omega (arith, few, long)) (omega arith)
      a.least a.less
