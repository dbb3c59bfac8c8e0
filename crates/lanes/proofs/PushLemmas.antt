-- An entry is added, and what was there stays.
use Rattle.std.proofs.Common.{◌≡◌, ℕ, zero, suc, ◌<◌, ◌≤◌, nat_lt, List, [], ◌∷◌, ◌++◌, filter, map, length, slice_get, slice_index}
use Rattle.std.proofs.Common.{Option, Some, None, inl, inr, refl, sym, ap, ◌∙◌, subst, arith, length-append}
use Rattle.std.proofs.lemmas.Bool.{cases_lt}
use Rattle.std.proofs.lemmas.Option.{slice_get_within}
use Rattle.reasoning.specs.Lists.{Extends}
use Rattle.reasoning.proofs.ListLemmas.{slice_get-front, slice_get-last, same_at}
use Rattle.criteria.specs.declared.arrival_trips.TimeTrips.{TimeTrips}
use Rattle.bags.specs.declared.point.Point.{Point}
use Rattle.lanes.specs.LaneLists.{word_tag, departure_in, next_in, words_in, tags_in, next_of, labels_of, point_of}
use Rattle.lanes.specs.LaneLists.{own_points, points_from, IsLinked, AreLists, IsPath, AreMore}
use Rattle.lanes.specs.declared.lane_lists.LaneEntry.{LaneEntry}
use Rattle.fronts.proofs.Chains as chain
use Rattle.lanes.proofs.EntryLemmas.{next_within}

pub same_entry : (old new : List LaneEntry) → Extends old new → (m : ℕ) → m < length old → slice_get new m ≡ slice_get old m
same_entry old new more m within = ap (λ es. slice_get es m) more.1 ∙ slice_get-front old more.0 m within

pub longer : (old new : List LaneEntry) → Extends old new → length old ≤ length new
longer old new more = let e = ap length more.1 ∙ length-append old more.0 in omega (arith, e)

-- the own points of an entry, given the words of the next one
abbrev own_by : Option LaneEntry → List ℕ → List (Point TimeTrips)
own_by entry later = map (point_of (departure_in entry)) (filter (λ l. nat_lt l.value.time (slice_index later l.value.trips)) (labels_of entry))

module _ (old new : List LaneEntry) (are : AreLists old) (more : Extends old new) where
  same_own : (m : ℕ) → m < length old → own_points new m ≡ own_points old m
  same_own m within =
      let here = same_entry old new more m within in
      ap (λ o. own_by o (words_in (slice_get new (next_in o)))) here
      ∙ ap (λ o. own_by (slice_get old m) (words_in o)) (same_entry old new more (next_of old m) (next_within old are m within))

  same_next : (m : ℕ) → m < length old → next_of new m ≡ next_of old m
  same_next m within = ap next_in (same_entry old new more m within)

  -- a list has the points that it had
  pub same_points : (m : ℕ) → m < length old → points_from new m ≡ points_from old m
  same_points m within =
      chain.same_along (next_of old) (own_points old) are.back (next_of new) (own_points new) (length old) same_next same_own m within

  pub path_more : (head : ℕ) (bs : List ℕ) (m : ℕ) → IsPath old head bs m → IsPath new head bs m
  path_more = chain.path_more (next_of old) (length old) (next_of new) (length new) (longer old new more) same_next

linked_more : (old new : List LaneEntry) (e : LaneEntry) → Extends old new → e.next < length old → IsLinked old e → IsLinked new e
linked_more old new e more within is =
    let s = sym (same_entry old new more e.next within) in
    record {
      tagged = is.tagged;
      rises = subst (λ (o : Option LaneEntry). e.departure ≤ departure_in o) s is.rises;
      under = subst (λ (o : Option LaneEntry). (k : ℕ) → k < 9 → slice_index e.front.times k ≤ slice_index (words_in o) k) s is.under;
      same = subst (λ (o : Option LaneEntry). (k : ℕ) → k < 9 → slice_index e.front.times k ≡ slice_index (words_in o) k
          → word_tag e.tags k ≡ word_tag (tags_in o) k) s is.same;
    }

-- an entry that is linked to one of the lists is added
module _ (old new : List LaneEntry) (e : LaneEntry) (are : AreLists old) (is : new ≡ old ++ e ∷ []) (linked : IsLinked old e)
    (next : e.next < length old) where
  pub pushed_more : Extends old new
  pushed_more = (e ∷ [], is)

  pub pushed_at : slice_get new (length old) ≡ Some e
  pushed_at = ap (λ es. slice_get es (length old)) is ∙ slice_get-last old e

  pub pushed_long : length new ≡ suc (length old)
  pushed_long = let l = length-append old (e ∷ []) in ap length is ∙ omega (arith, l)

  at_old : (m : ℕ) (f : LaneEntry) → m < length old → slice_get new m ≡ Some f → slice_get old m ≡ Some f
  at_old m f within at = sym (same_entry old new pushed_more m within) ∙ at

  pushed_each : (m : ℕ) (f : LaneEntry) → slice_get new m ≡ Some f → IsLinked new f
  pushed_each m f at =
      let within = slice_get_within new m f at in
      let long = pushed_long in
      elim (cases_lt m (length old)) [
        | inl lt ↦
            let was = at_old m f lt at in
            linked_more old new f pushed_more (subst (λ (o : Option LaneEntry). next_in o < length old) was (next_within old are m lt)) (are.each m f was)
        | inr ge ↦
            let last : m ≡ length old = omega (arith, within, long, ge) in
            subst (IsLinked new) (same_at new (length old) e f pushed_at (subst (λ n. slice_get new n ≡ Some f) last at))
            (linked_more old new e pushed_more next linked)
      ]

  pushed_back : (m : ℕ) (o : Option LaneEntry) → slice_get new (suc m) ≡ o → next_in o ≤ m
  pushed_back m None at = omega arith
  pushed_back m (Some f) at =
      let within = slice_get_within new (suc m) f at in
      let long = pushed_long in
      elim (cases_lt (suc m) (length old)) [
        | inl lt ↦ subst (λ (o : Option LaneEntry). next_in o ≤ m) (at_old (suc m) f lt at) (are.back m)
        | inr ge ↦
            let last : suc m ≡ length old = omega (arith, within, long, ge) in
            let same : e ≡ f = same_at new (length old) e f pushed_at (subst (λ n. slice_get new n ≡ Some f) last at) in
            let f_next : f.next < length old = subst (λ (x : LaneEntry). x.next < length old) same next in
            omega (arith, f_next, last)
      ]

  pub pushed_lists : AreLists new
  pushed_lists =
      let first = same_entry old new pushed_more 0 are.some in
      let long = pushed_long in
      record {
        some = omega (arith, long);
        ends = ap next_in first ∙ are.ends;
        last = ap departure_in first ∙ are.last;
        none = λ k few. ap (λ o. slice_index (words_in o) k) first ∙ are.none k few;
        back = λ m. pushed_back m (slice_get new (suc m)) refl;
        each = pushed_each;
      }

  pub pushed_has : AreMore old new (length old)
  pushed_has = let long = pushed_long in record { has = record { lists = pushed_lists; within = omega (arith, long) }; more = pushed_more }
