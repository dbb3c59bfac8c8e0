-- Lists of listed footpaths: two joined, and all of them.
use Rattle.std.proofs.Common.{◌≡◌, ◌↔◌, ℕ, zero, suc, ◌+◌, ◌-◌, ◌<◌, ◌≤◌, ◌⊎◌, inl, inr, List, [], ◌∷◌, ◌++◌, length, All, Option, Some, None, Contains, refl}
use Rattle.std.proofs.Common.{sym, ap, subst, ◌∙◌, arith, length-append}
use Rattle.std.proofs.lemmas.Option.{same_Some, none-some, slice_get_within}
use Rattle.std.proofs.lemmas.Bool.{cases_eq}
use Rattle.std.proofs.lemmas.List.Elements.{All-weaker, All-contains_itself}
use Rattle.reasoning.proofs.ListLemmas.{at_contains, slice_get-append}
use Rattle.timetable.specs.declared.network.Footpath.{Footpath}
use Rattle.timetable.specs.Legal.{At, HasFootpath, AreInOrder}
use Rattle.gtfs_tables.specs.declared.tables.Feed.{Feed}
use Rattle.transfers.specs.Listed.{AreAllListed, AreListed, LeadBelow, ListsMore, ListsMoreBelow, listed_secs}
use Rattle.transfers.specs.Lookup.{EndsBelow}
use Rattle.transfers.proofs.PathLemmas.{footpath_of}
use Rattle.transfers.proofs.RangeLemmas.{listed_below, loop_listed}

-- what stands at a place of two lists stands in the one or in the other
split_at : (xs ys : List Footpath) (i : ℕ) (f : Footpath) → At (xs ++ ys) i f → ((i < length xs) × At xs i f) ⊎ ((k : ℕ) × (i ≡ length xs + k) × At ys k f)
split_at [] ys i f at = inr (i, omega arith, at)
split_at (x ∷ xs) ys zero f at = inl (omega arith, at)
split_at (x ∷ xs) ys (suc i) f at = elim (split_at xs ys i f at) [
  | inl (below, here) ↦ inl (omega (arith, below), here)
  | inr (k, is, there) ↦ inr (k, omega (arith, is), there)
]

at_right : (xs ys : List Footpath) (k : ℕ) (f : Footpath) → At ys k f → (i : ℕ) × At (xs ++ ys) i f
at_right [] ys k f at = (k, at)
at_right (x ∷ xs) ys k f at = let (i, there) = at_right xs ys k f at in (suc i, there)

module _ (feed : Feed) where
  -- the same footpaths, said otherwise
  listed_same : (P Q : ℕ → ℕ → Type 0) (paths : List Footpath) → ((from to secs : ℕ) → listed_secs feed from to ≡ Some secs → P from to → Q from to)
      → ((from to secs : ℕ) → listed_secs feed from to ≡ Some secs → Q from to → P from to) → AreListed feed P paths → AreListed feed Q paths
  listed_same P Q paths there back h = record {
    in_order = h.in_order;
    has = λ from to secs is_in. let (meant, is) = h.has from to secs is_in in (there from to secs is meant, is);
    each = λ from to secs meant is. h.each from to secs (back from to secs is meant) is;
  }

  module _ (P Q R : ℕ → ℕ → Type 0) (xs ys : List Footpath) (front : AreListed feed P xs) (rear : AreListed feed Q ys) (before : (a b c d : ℕ) → P a b
      → Q c d → (b ≤ d) × (b ≡ d → a < c))
      (left : (a b : ℕ) → P a b → R a b) (right : (a b : ℕ) → Q a b → R a b) (either : (a b : ℕ) → R a b → P a b ⊎ Q a b) where
    appended : AreInOrder (xs ++ ys)
    appended i d e at_d at_e = elim (split_at xs ys i d at_d) [
      | inl (d_below, d_here) ↦ elim (split_at xs ys (i + 1) e at_e) [
        | inl (e_below, e_here) ↦ front.in_order i d e d_here e_here
        | inr (k, is, e_there) ↦ before d.from d.to e.from e.to (front.has d.from d.to d.secs (i, d_here)).0 (rear.has e.from e.to e.secs (k, e_there)).0
      ]
      | inr (j, d_is, d_there) ↦ elim (split_at xs ys (i + 1) e at_e) [
        | inl (e_below, e_here) ↦ absurd (omega (arith, d_is, e_below))
        | inr (k, is, e_there) ↦ rear.in_order j d e d_there (subst (λ (n : ℕ). At ys n e) (omega (arith, d_is, is)) e_there)
      ]
    ]

    -- some footpaths, and others behind them
    pub listed_append : AreListed feed R (xs ++ ys)
    listed_append = record {
      in_order = appended;
      has = λ from to secs (i, at). elim (split_at xs ys i (footpath_of from to secs) at) [
        | inl (below, here) ↦ let (meant, is) = front.has from to secs (i, here) in (left from to meant, is)
        | inr (k, e, there) ↦ let (meant, is) = rear.has from to secs (k, there) in (right from to meant, is)
      ];
      each = λ from to secs meant is. elim (either from to meant) [
        | inl p ↦ let (i, at) = front.each from to secs p is in (i, slice_get-append xs ys i (footpath_of from to secs) at)
        | inr q ↦ let (k, at) = rear.each from to secs q is in at_right xs ys k (footpath_of from to secs) at
      ];
    }

  -- those into one stop behind those into the stops before it
  pub listed_next : (to : ℕ) (xs ys : List Footpath) → AreListed feed (LeadBelow to) xs → AreListed feed (λ a b. b ≡ to) ys
      → AreListed feed (LeadBelow (to + 1)) (xs ++ ys)
  listed_next to xs ys front rear = listed_append (LeadBelow to) (λ a b. b ≡ to) (LeadBelow (to + 1)) xs ys front rear
      (λ a b c d below is. (omega (arith, below, is), λ same. absurd (omega (arith, below, is, same))))
      (λ a b below. omega (arith, below)) (λ a b is. omega (arith, is))
      (λ a b below. elim (cases_eq b to) [ inl same ↦ inr same | inr differ ↦ inl (omega (arith, below, differ)) ])

  -- none
  pub listed_none : (P : ℕ → ℕ → Type 0) → ((from to secs : ℕ) → listed_secs feed from to ≡ Some secs → ¬ P from to) → AreListed feed P []
  listed_none P none = record {
    in_order = λ i d e at_d at_e. absurd (none-some d at_d);
    has = λ from to secs (i, at). absurd (none-some (footpath_of from to secs) at);
    each = λ from to secs meant is. absurd (none from to secs is meant);
  }

  -- the listed footpath from a stop to a stop, where there is one
  abbrev IsPair : ℕ → ℕ → ℕ → ℕ → Type 0
  IsPair from to a b = (a ≡ from) × (b ≡ to)

  pair_secs : (from to a b secs : ℕ) → a ≡ from → b ≡ to → listed_secs feed a b ≡ Some secs → listed_secs feed from to ≡ Some secs
  pair_secs from to a b secs e_from e_to is = ap (λ (n : ℕ). listed_secs feed n to) (sym e_from) ∙ ap (λ (n : ℕ). listed_secs feed a n) (sym e_to) ∙ is

  one : (from to n : ℕ) → listed_secs feed from to ≡ Some n → AreListed feed (IsPair from to) (footpath_of from to n ∷ [])
  one from to n is = record {
    in_order = λ i d e at_d at_e. absurd (omega (arith, slice_get_within (footpath_of from to n ∷ []) (i + 1) e at_e));
    has = λ a b secs (i, at).
        let first : i ≡ 0 = omega (arith, slice_get_within (footpath_of from to n ∷ []) i (footpath_of a b secs) at) in
        let same : footpath_of from to n ≡ footpath_of a b secs = same_Some (footpath_of from to n) (footpath_of a b secs) (subst
        (λ (k : ℕ). At (footpath_of from to n ∷ []) k (footpath_of a b secs)) first at) in
        let e_from : from ≡ a = ap (λ (f : Footpath). f.from) same in
        let e_to : to ≡ b = ap (λ (f : Footpath). f.to) same in
        let e_secs : n ≡ secs = ap (λ (f : Footpath). f.secs) same in
        ((sym e_from, sym e_to), pair_secs a b from to secs e_from e_to (is ∙ ap (λ (k : ℕ). Some k) e_secs));
    each = λ a b secs (e_from, e_to) here.
        let e_secs : n ≡ secs = same_Some n secs (sym is ∙ pair_secs from to a b secs e_from e_to here) in (
          0,
          ap (λ (k : ℕ). Some (footpath_of k to n)) (sym e_from) ∙ ap (λ (k : ℕ). Some (footpath_of a k n)) (sym e_to)
              ∙ ap (λ (k : ℕ). Some (footpath_of a b k)) e_secs,
        );
  }

  pair : (from to : ℕ) (o : Option ℕ) → listed_secs feed from to ≡ o → (paths : List Footpath) × AreListed feed (IsPair from to) paths
  pair from to None none = (
    [],
    listed_none (IsPair from to) (λ a b secs is (e_from, e_to). none-some secs (sym none
        ∙ pair_secs from to a b secs e_from e_to is)),
  )
  pair from to (Some n) is = (footpath_of from to n ∷ [], one from to n is)

  -- those from the stops below a number to one stop
  block : (to n : ℕ) → (paths : List Footpath) × AreListed feed (λ a b. (a < n) × (b ≡ to)) paths
  block to zero = ([], listed_none (λ a b. (a < 0) × (b ≡ to)) (λ from into secs is (below, e). omega (arith, below)))
  block to (suc n) =
      let (xs, front) = block to n in
      let (ys, rear) = pair n to (listed_secs feed n to) refl in (
        xs ++ ys,
        listed_append (λ a b. (a < n) × (b ≡ to)) (IsPair n to) (λ a b. (a < suc n) × (b ≡ to)) xs ys front rear
            (λ a b c d (a_below, b_is) (c_is, d_is). (omega (arith, b_is, d_is), λ same. omega (arith, a_below, c_is)))
            (λ a b (below, is). (omega (arith, below), is)) (λ a b (a_is, is). (omega (arith, a_is), is))
            (λ a b (below, is). elim (cases_eq a n) [ inl same ↦ inr (same, is) | inr differ ↦ inl (omega (arith, below, differ), is) ]),
      )

  module _ (end : ℕ) (ends : EndsBelow feed end) where
    -- those into one stop
    into : (to : ℕ) → (paths : List Footpath) × AreListed feed (λ a b. b ≡ to) paths
    into to =
        let (xs, h) = block to end in (
          xs,
          listed_same (λ a b. (a < end) × (b ≡ to)) (λ a b. b ≡ to) xs (λ a b secs is (below, e). e)
              (λ a b secs is e. ((listed_below feed end ends a b secs is).0, e)) h,
        )

    -- those into more stops are no fewer
    further : (few more : ℕ) (xs : List Footpath) → AreListed feed (LeadBelow few) xs
        → (ys : List Footpath) × AreListed feed (LeadBelow (few + more)) ys × (length xs ≤ length ys)
    further few zero xs h = (
      xs,
      listed_same (LeadBelow few) (LeadBelow (few + 0)) xs (λ a b secs is below. omega (arith, below))
          (λ a b secs is below. omega (arith, below)) h,
      omega arith,
    )
    further few (suc more) xs h =
        let (ys, front, longer) = further few more xs h in
        let (zs, rear) = into (few + more) in (
          ys ++ zs,
          listed_same (LeadBelow (few + more + 1)) (LeadBelow (few + suc more)) (ys ++ zs) (λ a b secs is below. omega (arith, below))
              (λ a b secs is below. omega (arith, below)) (listed_next (few + more) ys zs front rear),
          omega (arith, longer, length-append ys zs),
        )

    -- all of them
    all_times : (paths : List Footpath) → AreListed feed (LeadBelow end) paths → (from to secs : ℕ)
        → HasFootpath paths from to secs ↔ (listed_secs feed from to ≡ Some secs)
    all_times paths h from to secs = (λ is_in. (h.has from to secs is_in).1, λ is. h.each from to secs (listed_below feed end ends from to secs is).1 is)

    pub lists_more : (most : ℕ) → ListsMoreBelow feed end most → ListsMore feed most
    lists_more most (few, small, xs, h, more) =
        let (ys, all, longer) = further few (end - few) xs h in
        let whole : AreListed feed (LeadBelow end) ys = subst (λ (n : ℕ). AreListed feed (LeadBelow n) ys) (omega (arith, small)) all in
        record { paths = ys; in_order = whole.in_order; times = all_times ys whole; more = omega (arith, more, longer) }

-- they join stops of the feed
in_range : (feed : Feed) (paths : List Footpath) → ((from to secs : ℕ) → HasFootpath paths from to secs ↔ (listed_secs feed from to ≡ Some secs))
    → All (λ (f : Footpath). (f.from < length feed.stops.items) × (f.to < length feed.stops.items)) paths
in_range feed paths times = All-weaker (Contains paths) (λ (f : Footpath). (f.from < length feed.stops.items) × (f.to < length feed.stops.items))
    (λ f is_in. listed_below feed (length feed.stops.items) (record { stops = omega arith; named = feed.named }) f.from f.to f.secs
    ((times f.from f.to f.secs).0 (at_contains paths f is_in))) paths (All-contains_itself paths)

-- each stop has a loop
has_loops : (feed : Feed) (paths : List Footpath) → ((from to secs : ℕ) → HasFootpath paths from to secs ↔ (listed_secs feed from to ≡ Some secs))
    → (stop : ℕ) → stop < length feed.stops.items → (secs : ℕ) × HasFootpath paths stop stop secs
has_loops feed paths times stop below = let (secs, is) = loop_listed feed stop below in (secs, (times stop stop secs).1 is)

-- all are listed where those below a number are that ends all
pub all_listed : (feed : Feed) (end : ℕ) → EndsBelow feed end → (paths : List Footpath) → AreListed feed (LeadBelow end) paths → AreAllListed feed paths
all_listed feed end ends paths h = record {
  times = all_times feed end ends paths h;
  in_order = h.in_order;
  in_range = in_range feed paths (all_times feed end ends paths h);
  loops = has_loops feed paths (all_times feed end ends paths h);
}
