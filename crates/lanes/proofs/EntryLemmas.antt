-- Entries, the points along their lists, and paths.
use Rattle.std.proofs.Common.{◌≡◌, ◌⊎◌, ℕ, zero, suc, ◌<◌, ◌≤◌, nat_lt, List, [], ◌∷◌, ◌++◌, filter, map, length, Contains, slice_get, slice_index}
use Rattle.std.proofs.Common.{Option, Some, get_or, inl, inr, refl, sym, ap, ◌∙◌, subst, arith}
use Rattle.std.proofs.lemmas.Bool.{ltb-true, lt-ltb}
use Rattle.std.proofs.lemmas.List.Elements.{Contains-append_left, Contains-append_right, Contains-append_cases}
use Rattle.std.proofs.lemmas.Option.{slice_get-get_or}
use Rattle.reasoning.proofs.ListLemmas.{not_in_nil, contains_cases, contains_first, contains_rest, from_filter, into_filter, at_below}
use Rattle.criteria.specs.declared.arrival_trips.TimeTrips.{TimeTrips}
use Rattle.bags.specs.declared.point.Point.{Point}
use Rattle.fronts.specs.declared.labels.Label.{Label}
use Rattle.fronts.proofs.Chains as chain
pub use Rattle.fronts.proofs.Mapped.{from_map, into_map}
use Rattle.lanes.specs.Lanes.{never}
use Rattle.lanes.specs.LaneLists.{word_tag, departure_in, next_in, words_in, tags_in, departure_of, next_of, word_of, tag_of, labels_of, point_of}
use Rattle.lanes.specs.LaneLists.{own_points, points_from, AreLists, IsPath, DepartBefore}
use Rattle.lanes.specs.declared.lane_lists.LaneEntry.{LaneEntry}

-- a point of an entry
pub record IsOwn (entries : List LaneEntry) (m : ℕ) (p : Point TimeTrips) : Type 0 where
  pub label : Label TimeTrips
  pub is_label : Contains (labels_of (slice_get entries m)) label
  pub point : point_of (departure_of entries m) label ≡ p
  pub less : label.value.time < word_of entries (next_of entries m) label.value.trips

pub is_own : (entries : List LaneEntry) (m : ℕ) (p : Point TimeTrips) → Contains (own_points entries m) p → IsOwn entries m p
is_own entries m p h =
    let test = λ (l : Label TimeTrips). nat_lt l.value.time (word_of entries (next_of entries m) l.value.trips) in
    let f = from_map (point_of (departure_of entries m)) (filter test (labels_of (slice_get entries m))) p h in
    let g = from_filter test (labels_of (slice_get entries m)) f.0 f.1 in
    record { label = f.0; is_label = g.0; point = f.2; less = ltb-true f.0.value.time (word_of entries (next_of entries m) f.0.value.trips) g.1 }

pub own_is : (entries : List LaneEntry) (m : ℕ) (l : Label TimeTrips) → Contains (labels_of (slice_get entries m)) l
    → l.value.time < word_of entries (next_of entries m) l.value.trips → Contains (own_points entries m) (point_of (departure_of entries m) l)
own_is entries m l is less =
    let test = λ (k : Label TimeTrips). nat_lt k.value.time (word_of entries (next_of entries m) k.value.trips) in
    into_map (point_of (departure_of entries m)) (filter test (labels_of (slice_get entries m))) l
    (into_filter test (labels_of (slice_get entries m)) l is (lt-ltb l.value.time (word_of entries (next_of entries m) l.value.trips) less))

module _ (entries : List LaneEntry) (are : AreLists entries) where
  unrolled : (m : ℕ) → points_from entries (suc m) ≡ own_points entries (suc m) ++ points_from entries (next_of entries (suc m))
  unrolled m = chain.unrolled (next_of entries) (own_points entries) are.back m

  none_at_end : points_from entries 0 ≡ []
  none_at_end = chain.none_at_end (next_of entries) (own_points entries)

  pub of_own : (m : ℕ) (p : Point TimeTrips) → 0 < m → Contains (own_points entries m) p → Contains (points_from entries m) p
  of_own zero p some h = absurd (omega (arith, some))
  of_own (suc m) p some h = subst (λ xs. Contains xs p) (sym (unrolled m))
      (Contains-append_left (own_points entries (suc m)) (points_from entries (next_of entries (suc m))) p h)

  pub of_next : (m : ℕ) (p : Point TimeTrips) → Contains (points_from entries (next_of entries m)) p → Contains (points_from entries m) p
  of_next zero p h = subst (λ n. Contains (points_from entries n) p) are.ends h
  of_next (suc m) p h = subst (λ xs. Contains xs p) (sym (unrolled m))
      (Contains-append_right (own_points entries (suc m)) (points_from entries (next_of entries (suc m))) p h)

  pub own_or_next : (m : ℕ) (p : Point TimeTrips) → Contains (points_from entries m) p
      → (0 < m) × (IsOwn entries m p ⊎ Contains (points_from entries (next_of entries m)) p)
  own_or_next zero p h = absurd (not_in_nil p (subst (λ xs. Contains xs p) none_at_end h))
  own_or_next (suc m) p h = (
    omega arith,
    elim (Contains-append_cases (own_points entries (suc m)) (points_from entries (next_of entries (suc m))) p (subst (λ xs. Contains xs p) (unrolled m) h)) [
      | inl own ↦ inl (is_own entries (suc m) p own)
      | inr next ↦ inr next
    ],
  )

  -- what the links of an entry say
  pub rises : (m : ℕ) → m < length entries → departure_of entries m ≤ departure_of entries (next_of entries m)
  rises m within =
      let e = at_below entries m within in
      subst (λ (o : Option LaneEntry). departure_in o ≤ departure_of entries (next_in o)) (sym e.1) (are.each m e.0 e.1).rises

  pub under : (m k : ℕ) → m < length entries → k < 9 → word_of entries m k ≤ word_of entries (next_of entries m) k
  under m k within few =
      let e = at_below entries m within in
      subst (λ (o : Option LaneEntry). slice_index (words_in o) k ≤ word_of entries (next_in o) k) (sym e.1) ((are.each m e.0 e.1).under k few)

  pub same : (m k : ℕ) → m < length entries → k < 9 → word_of entries m k ≡ word_of entries (next_of entries m) k
      → tag_of entries m k ≡ tag_of entries (next_of entries m) k
  same m k within few =
      let e = at_below entries m within in
      subst (λ (o : Option LaneEntry). slice_index (words_in o) k ≡ word_of entries (next_in o) k
      → word_tag (tags_in o) k ≡ tag_of entries (next_in o) k) (sym e.1) ((are.each m e.0 e.1).same k few)

  pub next_within : (m : ℕ) → m < length entries → next_of entries m < length entries
  next_within zero within = let e = are.ends in omega (arith, e, within)
  next_within (suc m) within = let b = are.back m in omega (arith, b, within)

  pub next_less : (m : ℕ) → 0 < m → next_of entries m < m
  next_less zero some = absurd (omega (arith, some))
  next_less (suc m) some = let b = are.back m in omega (arith, b)

  -- an entry that departs before a time of 32 bits isn't the end
  pub not_end : (m time : ℕ) → departure_of entries m < time → time ≤ never → 0 < m
  not_end zero time early most = let l = are.last in absurd (omega (arith, early, most, l))
  not_end (suc m) time early most = omega arith

  -- paths
  pub path_on : (bs : List ℕ) (head m : ℕ) (p : Point TimeTrips) → IsPath entries head bs m → Contains (points_from entries m) p
      → Contains (points_from entries head) p
  path_on [] head m p path h = subst (λ n. Contains (points_from entries n) p) (sym path) h
  path_on (b ∷ bs) head m p path h =
      subst (λ n. Contains (points_from entries n) p) (sym path.0) (of_next b p (path_on bs (next_of entries b) m p path.3 h))

  -- a point that departs at a time or later isn't of the entries before that time
  pub path_past : (time : ℕ) (bs : List ℕ) (head m : ℕ) (p : Point TimeTrips) → IsPath entries head bs m → DepartBefore entries time bs
      → Contains (points_from entries head) p → time ≤ p.departure → Contains (points_from entries m) p
  path_past time [] head m p path early h late = subst (λ n. Contains (points_from entries n) p) path h
  path_past time (b ∷ bs) head m p path early h late =
      elim (own_or_next b p (subst (λ n. Contains (points_from entries n) p) path.0 h)).1 [
        | inl own ↦
            let departs = ap (λ (q : Point TimeTrips). q.departure) own.point in
            let lt = early b (contains_first b bs) in
            absurd (omega (arith, departs, lt, late))
        | inr next ↦ path_past time bs (next_of entries b) m p path.3 (λ x is. early x (contains_rest x b bs is)) next late
      ]

  -- the first entry that departs at a time or later is the only one
  pub path_one : (time : ℕ) (bs cs : List ℕ) (head m n : ℕ) → IsPath entries head bs m → IsPath entries head cs n → DepartBefore entries time bs
      → DepartBefore entries time cs → time ≤ departure_of entries m → time ≤ departure_of entries n → m ≡ n
  path_one time [] [] head m n path other early before late later = sym path ∙ other
  path_one time [] (c ∷ cs) head m n path other early before late later =
      let lt = before c (contains_first c cs) in
      let is : departure_of entries m ≡ departure_of entries c = ap (departure_of entries) (sym path ∙ other.0) in
      absurd (omega (arith, lt, late, is))
  path_one time (b ∷ bs) [] head m n path other early before late later =
      let lt = early b (contains_first b bs) in
      let is : departure_of entries n ≡ departure_of entries b = ap (departure_of entries) (sym other ∙ path.0) in
      absurd (omega (arith, lt, later, is))
  path_one time (b ∷ bs) (c ∷ cs) head m n path other early before late later =
      let is : c ≡ b = sym other.0 ∙ path.0 in
      path_one time bs cs (next_of entries b) m n path.3 (subst (λ x. IsPath entries (next_of entries x) cs n) is other.3)
      (λ x h. early x (contains_rest x b bs h)) (λ x h. before x (contains_rest x c cs h)) late later
