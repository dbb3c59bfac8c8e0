-- How footpaths are brought into the order of the stops that they lead into.
use Rattle.std.proofs.Common.{◌≡◌, ◌≢◌, ℕ, ◌+◌, ◌-◌, ◌<◌, ◌≤◌, inl, inr, List, [], ◌∷◌, ◌++◌, length, take, drop, Contains, get_or, set, sym, ap, subst}
use Rattle.std.proofs.Common.{◌∙◌, arith, length-append}
use Rattle.std.specs.List.{slice_range}
use Rattle.std.proofs.Math.ListN.{length-set}
use Rattle.std.proofs.lemmas.Bool.{cases_eq, cases_lt}
use Rattle.std.proofs.lemmas.Option.{slice_get_within}
use Rattle.std.proofs.lemmas.List.{get_or-set_same, get_or-set_other, get_or_append_left, get_or-append_right, take-append-le, drop-append-le, take_all}
use Rattle.std.proofs.lemmas.List.{drop_at, length-drop, append-nil, append_assoc}
use Rattle.std.proofs.lemmas.List.Elements.{All-append, All-push, All-nil, All-weaker, Contains-push, Contains-append_left}
use Rattle.reasoning.proofs.ListLemmas.{contains_at, at_contains, same_at}
use Rattle.timetable.specs.declared.network.Footpath.{Footpath}
use Rattle.timetable.specs.Legal.{At}
use Rattle.footpaths.specs.Index.{AreThoseInto, IsIndexUpTo, IsLastInto, AreChains, AddsThoseFrom}

module _ (listed : List Footpath) (i : ℕ) (path : Footpath) (at_path : At listed i path) where
  last_here : IsLastInto listed path.to (i + 1) (i + 1)
  last_here = record {
    within = omega arith;
    into = λ j f e at.
        let same : j ≡ i = omega (arith, e) in
        ap (λ (g : Footpath). g.to) (same_at listed i f path (subst (λ (n : ℕ). At listed n f) same at) at_path);
    none_after = λ j f low high at to. omega (arith, low, high);
  }

  last_other : (stop k : ℕ) → stop ≢ path.to → IsLastInto listed stop i k → IsLastInto listed stop (i + 1) k
  last_other stop k differ old = record {
    within = omega (arith, old.within);
    into = old.into;
    none_after = λ j f low high at to. elim (cases_eq j i) [
      | inl same ↦ differ (sym to ∙ ap (λ (g : Footpath). g.to) (same_at listed i f path (subst (λ (n : ℕ). At listed n f) same at) at_path))
      | inr other ↦ old.none_after j f low (omega (arith, high, other)) at to
    ];
  }

  -- one footpath more is chained
  pub chains_more : (last before : List ℕ) → path.to < length last → length before ≡ i → AreChains listed i last before
      → AreChains listed (i + 1) (set last path.to (i + 1)) (before ++ get_or last path.to 0 ∷ [])
  chains_more last before inside count old = record {
    lasts = λ s below.
        let in_last : s < length last = omega (arith, below, length-set last path.to (i + 1)) in
        elim (cases_eq s path.to) [
          | inl same ↦
              let now : get_or (set last path.to (i + 1)) s 0 ≡ i + 1 = ap (λ (n : ℕ). get_or (set last path.to (i + 1)) n 0) same
              ∙ get_or-set_same last path.to (i + 1) 0 inside in
              subst (λ (k : ℕ). IsLastInto listed s (i + 1) k) (sym now) (subst (λ (n : ℕ). IsLastInto listed n (i + 1) (i + 1)) (sym same) last_here)
          | inr differ ↦
              let now : get_or (set last path.to (i + 1)) s 0 ≡ get_or last s 0 = get_or-set_other last path.to s (i + 1) 0 differ in
              subst (λ (k : ℕ). IsLastInto listed s (i + 1) k) (sym now) (last_other s (get_or last s 0) differ (old.lasts s in_last))
        ];
    befores = λ j f below at. elim (cases_eq j i) [
      | inl same ↦
          let same_path : path ≡ f = same_at listed i path f at_path (subst (λ (n : ℕ). At listed n f) same at) in
          let now : get_or (before ++ get_or last path.to 0 ∷ []) j 0 ≡ get_or last path.to 0 =
          get_or-append_right before (get_or last path.to 0 ∷ []) i j 0 count (omega (arith, same))
          ∙ ap (λ (n : ℕ). get_or (get_or last path.to 0 ∷ []) n 0) (let e : j - i ≡ 0 = omega (arith, same) in e) in
          let into_path : IsLastInto listed path.to i (get_or last path.to 0) = old.lasts path.to inside in
          let here : IsLastInto listed f.to i (get_or last path.to 0) =
          subst (λ (g : Footpath). IsLastInto listed g.to i (get_or last path.to 0)) same_path into_path in
          subst (λ (n : ℕ). IsLastInto listed f.to n (get_or (before ++ get_or last path.to 0 ∷ []) j 0)) (sym same)
          (subst (λ (k : ℕ). IsLastInto listed f.to i k) (sym now) here)
      | inr differ ↦
          let earlier : j < i = omega (arith, below, differ) in
          let now : get_or (before ++ get_or last path.to 0 ∷ []) j 0 ≡ get_or before j 0 =
          get_or_append_left before (get_or last path.to 0 ∷ []) 0 j (omega (arith, earlier, count)) in
          subst (λ (k : ℕ). IsLastInto listed f.to j k) (sym now) (old.befores j f earlier at)
    ];
  }

-- before a chain nothing is added
pub adds_none : (listed paths : List Footpath) (stop k : ℕ) → IsLastInto listed stop (length listed) k → AddsThoseFrom listed stop k paths paths
adds_none listed paths stop k last = record {
  added = [];
  is = sym (append-nil paths);
  into = All-nil (λ (f : Footpath). Contains listed f × (f.to ≡ stop));
  whole = λ i f low at to. absurd (last.none_after i f low (slice_get_within listed i f at) at to);
}

-- the k-th footpath is added, and those before it are left
pub adds_more : (listed old new : List Footpath) (stop k j : ℕ) (path : Footpath) → At listed j path → k ≡ j + 1 → path.to ≡ stop → (left : ℕ)
    → IsLastInto listed path.to j left → AddsThoseFrom listed stop k old new → AddsThoseFrom listed stop left old (new ++ path ∷ [])
adds_more listed old new stop k j path at_path e to left before adds = record {
  added = adds.added ++ path ∷ [];
  is = ap (λ (xs : List Footpath). xs ++ path ∷ []) adds.is ∙ append_assoc old adds.added (path ∷ []);
  into = All-push (λ (f : Footpath). Contains listed f × (f.to ≡ stop)) adds.added path adds.into (contains_at listed j path at_path, to);
  whole = λ i f low at into_stop. elim (cases_lt i j) [
    | inl below ↦ absurd (before.none_after i f low below at (into_stop ∙ sym to))
    | inr above ↦ elim (cases_eq i j) [
      | inl same ↦
          let equal : path ≡ f = same_at listed j path f at_path (subst (λ (n : ℕ). At listed n f) same at) in
          subst (λ (g : Footpath). Contains (adds.added ++ path ∷ []) g) equal (Contains-push adds.added path)
      | inr differ ↦ Contains-append_left adds.added (path ∷ []) f (adds.whole i f (omega (arith, e, above, differ)) at into_stop)
    ]
  ];
}

-- all of a chain are those into the stop
pub those_added : (listed old new : List Footpath) (stop : ℕ) (adds : AddsThoseFrom listed stop 0 old new) → AreThoseInto listed stop adds.added
those_added listed old new stop adds = record {
  into = adds.into;
  whole = λ f in_list to. let (i, at) = at_contains listed f in_list in adds.whole i f (omega arith) at to;
}

-- what is added behind leaves a range as it was
range_stays : (xs ys : List Footpath) (a b : ℕ) → a ≤ b → b ≤ length xs → slice_range (xs ++ ys) a b ≡ slice_range xs a b
range_stays xs ys a b rising inside =
    let low : a ≤ length xs = omega (arith, rising, inside) in
    let short : b - a ≤ length (drop a xs) = omega (arith, length-drop a xs, inside) in
    ap (λ (zs : List Footpath). take (b - a) zs) (drop-append-le a xs ys low) ∙ take-append-le (b - a) (drop a xs) ys short

range_added : (xs ys : List Footpath) (a b : ℕ) → a ≡ length xs → b ≡ length (xs ++ ys) → slice_range (xs ++ ys) a b ≡ ys
range_added xs ys a b low high =
    let all : length ys ≤ b - a = omega (arith, low, high, length-append xs ys) in
    ap (λ (zs : List Footpath). take (b - a) zs) (drop_at xs ys a (sym low)) ∙ take_all (b - a) ys all

-- the footpaths into one stop more
pub index_more : (listed : List Footpath) (stop : ℕ) (first : List ℕ) (paths new : List Footpath) (adds : AddsThoseFrom listed stop 0 paths new)
    → IsIndexUpTo listed stop first paths → IsIndexUpTo listed (stop + 1) (first ++ length new ∷ []) new
index_more listed stop first paths new adds old = subst (λ (xs : List Footpath). IsIndexUpTo listed (stop + 1) (first ++ length xs ∷ []) xs) (sym adds.is) more
  where
    at_end : get_or (first ++ length (paths ++ adds.added) ∷ []) (stop + 1) 0 ≡ length (paths ++ adds.added)
    at_end = get_or-append_right first (length (paths ++ adds.added) ∷ []) (stop + 1) (stop + 1) 0 old.count (omega arith)
        ∙ ap (λ (n : ℕ). get_or (length (paths ++ adds.added) ∷ []) n 0) (let e : (stop + 1) - (stop + 1) ≡ 0 = omega arith in e)

    at_first : (s : ℕ) → s < stop + 1 → get_or (first ++ length (paths ++ adds.added) ∷ []) s 0 ≡ get_or first s 0
    at_first s below = get_or_append_left first (length (paths ++ adds.added) ∷ []) 0 s (omega (arith, below, old.count))

    -- where the stop's footpaths begin and end
    low_at : (s : ℕ) → s ≡ stop → get_or (first ++ length (paths ++ adds.added) ∷ []) s 0 ≡ length paths
    low_at s same = at_first s (omega (arith, same)) ∙ ap (λ (n : ℕ). get_or first n 0) same ∙ old.end

    high_at : (s : ℕ) → s ≡ stop → get_or (first ++ length (paths ++ adds.added) ∷ []) (s + 1) 0 ≡ length (paths ++ adds.added)
    high_at s same = ap (λ (n : ℕ). get_or (first ++ length (paths ++ adds.added) ∷ []) (n + 1) 0) same ∙ at_end

    longer : length (first ++ length (paths ++ adds.added) ∷ []) ≡ stop + 2
    longer = omega (arith, length-append first (length (paths ++ adds.added) ∷ []), old.count)

    more : IsIndexUpTo listed (stop + 1) (first ++ length (paths ++ adds.added) ∷ []) (paths ++ adds.added)
    more = record {
      count = omega (arith, longer);
      end = at_end;
      ranges = λ s below. elim (cases_eq s stop) [
        | inl same ↦
            (omega (arith, low_at s same, high_at s same, length-append paths adds.added), omega (arith, high_at s same))
        | inr differ ↦
            let inside : s + 1 < stop + 1 = omega (arith, below, longer, differ) in
            let low = at_first s (omega (arith, inside)) in
            let high = at_first (s + 1) inside in
            let was = old.ranges s (omega (arith, inside, old.count)) in
            (omega (arith, low, high, was.0), omega (arith, high, was.1, length-append paths adds.added))
      ];
      index = λ s below. elim (cases_eq s stop) [
        | inl same ↦
            let is : slice_range (paths ++ adds.added) (get_or (first ++ length (paths ++ adds.added) ∷ []) s 0)
            (get_or (first ++ length (paths ++ adds.added) ∷ []) (s + 1) 0) ≡ adds.added =
            range_added paths adds.added (get_or (first ++ length (paths ++ adds.added) ∷ []) s 0)
            (get_or (first ++ length (paths ++ adds.added) ∷ []) (s + 1) 0) (low_at s same) (high_at s same) in
            subst (λ (xs : List Footpath). AreThoseInto listed s xs) (sym is)
            (subst (λ (n : ℕ). AreThoseInto listed n adds.added) (sym same) (those_added listed paths new stop adds))
        | inr differ ↦
            let inside : s + 1 < stop + 1 = omega (arith, below, longer, differ) in
            let low = at_first s (omega (arith, inside)) in
            let high = at_first (s + 1) inside in
            let before : s + 1 < length first = omega (arith, inside, old.count) in
            let was = old.ranges s before in
            let same_range : slice_range (paths ++ adds.added) (get_or (first ++ length (paths ++ adds.added) ∷ []) s 0)
            (get_or (first ++ length (paths ++ adds.added) ∷ []) (s + 1) 0) ≡ slice_range (paths ++ adds.added) (get_or first s 0)
            (get_or first (s + 1) 0) =
            ap (λ (n : ℕ). slice_range (paths ++ adds.added) n (get_or (first ++ length (paths ++ adds.added) ∷ []) (s + 1) 0)) low
            ∙ ap (λ (n : ℕ). slice_range (paths ++ adds.added) (get_or first s 0) n) high in
            let is : slice_range (paths ++ adds.added) (get_or (first ++ length (paths ++ adds.added) ∷ []) s 0)
            (get_or (first ++ length (paths ++ adds.added) ∷ []) (s + 1) 0) ≡ slice_range paths (get_or first s 0) (get_or first (s + 1) 0) =
            same_range ∙ range_stays paths adds.added (get_or first s 0) (get_or first (s + 1) 0) was.0 was.1 in
            subst (λ (xs : List Footpath). AreThoseInto listed s xs) (sym is) (old.index s before)
      ];
      listed_ones = All-append (Contains listed) paths adds.added old.listed_ones
          (All-weaker (λ (f : Footpath). Contains listed f × (f.to ≡ stop)) (Contains listed) (λ f both. both.0) adds.added adds.into);
    }

-- a range by other names of its ends and its list
pub those_range : (listed paths ps : List Footpath) (stop a b a' b' : ℕ) → a ≡ a' → b ≡ b' → ps ≡ paths → AreThoseInto listed stop (slice_range paths a' b')
    → AreThoseInto listed stop (take (b - a) (drop a ps))
those_range listed paths ps stop a b a' b' low high same those =
    let by_list : AreThoseInto listed stop (slice_range ps a' b') =
    subst (λ (xs : List Footpath). AreThoseInto listed stop (slice_range xs a' b')) (sym same) those in
    let by_low : AreThoseInto listed stop (slice_range ps a b') = subst (λ (n : ℕ). AreThoseInto listed stop (slice_range ps n b')) (sym low) by_list in
    subst (λ (n : ℕ). AreThoseInto listed stop (slice_range ps a n)) (sym high) by_low

-- what stands past the end
abbrev pub no_path : Footpath
no_path = record { from = 0; to = 0; secs = 0 }
