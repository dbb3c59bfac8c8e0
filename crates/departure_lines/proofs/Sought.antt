-- The names of a list, sought among the stops of an image.
use Rattle.std.proofs.Common.{◌≡◌, ◌≢◌, ◌⊎◌, ◌<◌, ◌+◌, ℕ, suc, Bool, true, false, List, [], ◌∷◌, ◌++◌, Option, None, Some, length, map, take}
use Rattle.std.proofs.Common.{cond, get_or, slice_get, option_map, sym, ◌∙◌, ap, subst, refl, inl, inr, arith, Contains}
use Rattle.std.specs.Prelude.{if◌then◌else◌}
use Rattle.std.specs.BTreeMap.{BTreeMap, IsEmpty}
use Rattle.std.specs.Borrow.{Bor}
use Rattle.std.specs.Str.{bytes_eq}
use Rattle.std.proofs.lemmas.Bool.{cases_Bool, true≢false}
use Rattle.std.proofs.lemmas.List.Elements.{Contains-append_left, Contains-push, Contains-push_cases}
use Rattle.std.proofs.lemmas.Slice.Eq.{bytes_eq-Decides}
use Rattle.std.proofs.lemmas.Bool.{cases_eq}
use Rattle.std.proofs.lemmas.List.{length-append, take_more}
use Rattle.std.proofs.lemmas.Option.{get_or_from_slice_get, slice_get-get_or, slice_get-map, slice_get_within}
use Rattle.reasoning.proofs.ListLemmas.{contains_at, not_in_nil, same_at, slice_get-front, slice_get-last}
use Rattle.timetable.specs.Legal.{At}
use Rattle.timetable.specs.NamesValue.{NamesValue}
use Rattle.image_facts.specs.Naming.{bytes_or_none, stop_bytes}
use Rattle.departure_lines.specs.Naming.{AreMarked, IsUnknownLine, is_set}
use Rattle.journeys.specs.Questions.{IsNamed}
use Rattle.departure_lines.specs.Sought.{AreFoundBelow, AreMarkedBelow, AreSought, IsFirstMissing, found_at, is_missing, now_found}

-- no name is sought yet
pub none_sought : (found : BTreeMap (Bor (List ℕ)) Bool) → IsEmpty found → AreSought [] found
none_sought found empty = record {
  has = λ name h. absurd (not_in_nil name h);
  only = λ name some. absurd (some (nothing name));
}
  where
    nothing : (name : List ℕ) → found_at found name ≡ None
    nothing name = rw empty refl

-- one name more
pub name_sought : (listed : List (List ℕ)) (name : List ℕ) (old new : BTreeMap (Bor (List ℕ)) Bool) → AreSought listed old
    → ((q : List ℕ) → found_at new q ≡ (if bytes_eq name q then Some false else found_at old q)) → AreSought (listed ++ name ∷ []) new
name_sought listed name old new are put = record {
  has = λ q h. by_listed q h (cases_Bool (bytes_eq name q));
  only = λ q some. by_only q some (cases_Bool (bytes_eq name q));
}
  where
    here : (q : List ℕ) → bytes_eq name q ≡ true → found_at new q ≡ Some false
    here q e = put q ∙ rw e refl

    apart : (q : List ℕ) → bytes_eq name q ≡ false → found_at new q ≡ found_at old q
    apart q e = put q ∙ rw e refl

    by_listed : (q : List ℕ) → Contains (listed ++ name ∷ []) q → (bytes_eq name q ≡ true) ⊎ (bytes_eq name q ≡ false) → found_at new q ≡ Some false
    by_listed q h (inl same) = here q same
    by_listed q h (inr differ) = elim (Contains-push_cases listed name q h) [
      | inl before ↦ apart q differ ∙ are.has q before
      | inr last ↦ absurd (true≢false (sym ((bytes_eq-Decides name q).1 last) ∙ differ))
    ]

    by_only : (q : List ℕ) → found_at new q ≢ None → (bytes_eq name q ≡ true) ⊎ (bytes_eq name q ≡ false) → Contains (listed ++ name ∷ []) q
    by_only q some (inl same) = subst (Contains (listed ++ name ∷ [])) ((bytes_eq-Decides name q).0 same) (Contains-push listed name)
    by_only q some (inr differ) = Contains-append_left listed (name ∷ []) q (are.only q (λ none. some (apart q differ ∙ none)))

-- what a name has once one was found
pub found_now : (name q : List ℕ) (old : List ℕ → Option Bool) (seen now : Bool) (new : Option Bool) → old name ≡ Some seen → now ≡ true
    → new ≡ cond (bytes_eq name q) (Some now) (old q) → new ≡ (if bytes_eq name q then now_found (old q) else old q)
found_now name q old seen now new had is put = by (bytes_eq name q) (λ e. ap old (sym ((bytes_eq-Decides name q).0 e)) ∙ had) put
  where
    by : (b : Bool) → (b ≡ true → old q ≡ Some seen) → new ≡ cond b (Some now) (old q) → new ≡ (if b then now_found (old q) else old q)
    by true same e = e ∙ ap Some is ∙ sym (ap now_found (same refl))
    by false same e = e

-- what a name has if none was found
pub not_found_now : (name q : List ℕ) (old : List ℕ → Option Bool) → old name ≡ None
    → old q ≡ (if bytes_eq name q then now_found (old q) else old q)
not_found_now name q old none = by (bytes_eq name q) (λ e. ap old (sym ((bytes_eq-Decides name q).0 e)) ∙ none)
  where
    by : (b : Bool) → (b ≡ true → old q ≡ None) → old q ≡ (if b then now_found (old q) else old q)
    by true same = same refl ∙ sym (ap now_found (same refl))
    by false same = refl

-- one line is longer by its next name
pub more_listed : (listed : List (List ℕ)) (index : ℕ) (name : List ℕ) → slice_get listed index ≡ Some name
    → take (index + 1) listed ≡ take index listed ++ name ∷ []
more_listed listed index name at =
    take_more listed index name (slice_get_within listed index name at)
    ∙ ap (λ (x : List ℕ). take index listed ++ x ∷ []) (get_or_from_slice_get listed index name name at)

-- the item at an index is the next name
at_index : {A : Type 0} (f : A → List ℕ) (items : List A) (index : ℕ) (d : A) → index < length items
    → slice_get (map f items) index ≡ Some (f (get_or items index d))
at_index f items index d less = slice_get-map f items index ∙ ap (option_map f) (slice_get-get_or items index d less)

-- the names so far are sought, and so is the next one
pub item_sought : {A : Type 0} (f : A → List ℕ) (items : List A) (index : ℕ) (d : A) (old new : BTreeMap (Bor (List ℕ)) Bool)
    → index < length items → AreSought (take index (map f items)) old
    → ((q : List ℕ) → found_at new q ≡ (if bytes_eq (f (get_or items index d)) q then Some false else found_at old q))
    → AreSought (take (index + 1) (map f items)) new
item_sought f items index d old new less are put =
    let name = f (get_or items index d) in
    subst (λ (names : List (List ℕ)). AreSought names new) (sym (more_listed (map f items) index name (at_index f items index d less)))
    (name_sought (take index (map f items)) name old new are put)

-- a name more was found
found_more : (listed : List (List ℕ)) (index : ℕ) (name : List ℕ) (found : BTreeMap (Bor (List ℕ)) Bool) → slice_get listed index ≡ Some name
    → ((other : List ℕ) → Contains (take index listed) other → found_at found other ≡ Some true) → found_at found name ≡ Some true
    → (other : List ℕ) → Contains (take (index + 1) listed) other → found_at found other ≡ Some true
found_more listed index name found at before is other h =
    elim (Contains-push_cases (take index listed) name other
    (subst (λ (names : List (List ℕ)). Contains names other) (more_listed listed index name at) h)) [
      | inl earlier ↦ before other earlier
      | inr last ↦ subst (λ (n : List ℕ). found_at found n ≡ Some true) last is
    ]

-- the names so far were found, and so was the next one
pub item_found : {A : Type 0} (f : A → List ℕ) (items : List A) (index : ℕ) (d : A) (found : BTreeMap (Bor (List ℕ)) Bool) → index < length items
    → ((other : List ℕ) → Contains (take index (map f items)) other → found_at found other ≡ Some true)
    → is_set (found_at found (f (get_or items index d))) ≡ true
    → (other : List ℕ) → Contains (take (index + 1) (map f items)) other → found_at found other ≡ Some true
item_found f items index d found less before is =
    let name = f (get_or items index d) in
    found_more (map f items) index name found (at_index f items index d less) before (set_is (found_at found name) is)
  where
    set_is : (had : Option Bool) → is_set had ≡ true → had ≡ Some true
    set_is None e = absurd (true≢false (sym e))
    set_is (Some found) e = ap Some e

-- the names so far were found, and the next one wasn't
pub item_missing : {A : Type 0} (f : A → List ℕ) (items : List A) (index : ℕ) (d : A) (found : BTreeMap (Bor (List ℕ)) Bool) → index < length items
    → ((other : List ℕ) → Contains (take index (map f items)) other → found_at found other ≡ Some true)
    → is_set (found_at found (f (get_or items index d))) ≡ false → IsFirstMissing found (map f items) (index + 1)
item_missing f items index d found less before is = record {
  index = index;
  name = f (get_or items index d);
  numbered = more index;
  at = at_index f items index d less;
  missing = λ e. true≢false (sym (ap is_set e) ∙ is);
  before = before;
}
  where
    more : (n : ℕ) → n + 1 ≡ suc n
    more n = omega arith

some_none : (b : Bool) → Some b ≡ None → ⊥
some_none b e = subst is_some e tt
  where
    is_some : Option Bool → Type 0
    is_some None = ⊥
    is_some (Some b) = Unit

some_is : {a b : Bool} → Some a ≡ Some b → a ≡ b
some_is {a} {b} e = ap value e
  where
    value : Option Bool → Bool
    value None = a
    value (Some b) = b

pub set_is : (had : Option Bool) → is_set had ≡ true → had ≡ Some true
set_is None e = absurd (true≢false (sym e))
set_is (Some found) e = ap Some e

-- before a stop was looked at no name is found, and no stop is marked
pub none_found : (names : NamesValue) (listed : List (List ℕ)) (found : BTreeMap (Bor (List ℕ)) Bool) → AreSought listed found
    → AreFoundBelow names listed 0 found
none_found names listed found are = record {
  has = λ name h none. some_none false (sym (are.has name h) ∙ none);
  only = are.only;
  by_stop = λ name is. absurd (true≢false (some_is (sym is ∙ are.has name (are.only name (λ none. some_none true (sym is ∙ none))))));
  by_none = λ name is stop less. absurd (omega (arith, less));
}

pub none_marked_below : (names : NamesValue) (listed : List (List ℕ)) (marks : List Bool) → marks ≡ [] → AreMarkedBelow names listed 0 marks
none_marked_below names listed marks is stop = (
  (λ marked. absurd (omega (arith, subst (λ (xs : List Bool). stop < length xs) is (slice_get_within marks stop true marked)))),
  (λ named. absurd (omega (arith, named.0))),
)

-- what a name has after a stop of another name was looked at, and after one of it
none_now : (b : Bool) (old : Option Bool) → (if b then now_found old else old) ≡ None → old ≡ None
none_now b None e = refl
none_now true (Some x) e = absurd (some_none true e)
none_now false (Some x) e = absurd (some_none x e)

none_still : (b : Bool) (old : Option Bool) → old ≡ None → (if b then now_found old else old) ≡ None
none_still true old e = ap now_found e
none_still false old e = e

missing_now : (b : Bool) (old : Option Bool) → (if b then now_found old else old) ≡ Some false → (b ≡ false) × (old ≡ Some false)
missing_now true None e = absurd (some_none false (sym e))
missing_now true (Some x) e = absurd (true≢false (some_is e))
missing_now false old e = (refl, e)

found_by : (b : Bool) (old : Option Bool) → (if b then now_found old else old) ≡ Some true → (old ≡ Some true) ⊎ ((b ≡ true) × (old ≡ Some false))
found_by true None e = absurd (some_none true (sym e))
found_by true (Some true) e = inl refl
found_by true (Some false) e = inr (refl, refl)
found_by false old e = inl e

missing_is : (old : Option Bool) → is_missing old ≡ true → old ≡ Some false
missing_is None e = absurd (true≢false (sym e))
missing_is (Some true) e = absurd (true≢false (sym e))
missing_is (Some false) e = refl

-- the next stop is looked at, which has a name
module _ (names : NamesValue) (listed : List (List ℕ)) (k : ℕ) (name : List ℕ) (old new : BTreeMap (Bor (List ℕ)) Bool)
    (at : At names.stops k name) (are : AreFoundBelow names listed k old)
    (put : (q : List ℕ) → found_at new q ≡ (if bytes_eq name q then now_found (found_at old q) else found_at old q)) where
  least_at : (q : List ℕ) → name ≡ q → found_at old q ≡ Some false → IsNamed names q k
  least_at q same missing = (subst (At names.stops k) same at, λ j less other. are.by_none q missing j less other)

  -- whether a stop was found of each name
  pub stop_found : AreFoundBelow names listed (k + 1) new
  stop_found = record {
    has = λ q h none. are.has q h (none_now (bytes_eq name q) (found_at old q) (sym (put q) ∙ none));
    only = λ q some. are.only q (λ none. some (put q ∙ none_still (bytes_eq name q) (found_at old q) none));
    by_stop = λ q is. elim (found_by (bytes_eq name q) (found_at old q) (sym (put q) ∙ is)) [
      | inl before ↦ let stop = are.by_stop q before in (stop.0, omega (arith, stop.1), stop.2)
      | inr here ↦ (k, omega arith, least_at q ((bytes_eq-Decides name q).0 here.0) here.1)
    ];
    by_none = λ q is stop less other.
        let missing = missing_now (bytes_eq name q) (found_at old q) (sym (put q) ∙ is) in
        elim (cases_eq stop k) [
          | inl here ↦
              let same : name ≡ q = same_at names.stops k name q at (subst (λ (i : ℕ). At names.stops i q) here other) in
              true≢false (sym ((bytes_eq-Decides name q).1 same) ∙ missing.0)
          | inr apart ↦ are.by_none q missing.1 stop (omega (arith, less, apart)) other
        ];
  }

  -- and which stops are marked
  pub stop_marked : (marks now : List Bool) → AreMarkedBelow names listed k marks → length marks ≡ k
      → now ≡ marks ++ is_missing (found_at old name) ∷ [] → AreMarkedBelow names listed (k + 1) now
  stop_marked marks now marked long is stop = (
    (λ here. elim (cases_eq stop k) [
      | inl last ↦
          let missing : found_at old name ≡ Some false = missing_is (found_at old name) (some_is (sym at_last ∙ sym (ap (slice_get now) last) ∙ here)) in (
            omega (arith, last),
            (
              name,
              are.only name (λ none. some_none false (sym missing ∙ none)),
              subst (IsNamed names name) (sym last) (least_at name refl missing),
            ),
          )
      | inr apart ↦
          let below = stop_below here apart in
          let before = (marked stop).0 (sym (front below) ∙ here) in
          (omega (arith, below), before.1)
    ]),
    (λ named. elim (cases_eq stop k) [
      | inl last ↦ ap (slice_get now) last ∙ at_last ∙ ap Some (is_first named.1.0 named.1.1 (subst (IsNamed names named.1.0) last named.1.2))
      | inr apart ↦ front (omega (arith, named.0, apart)) ∙ (marked stop).1 (omega (arith, named.0, apart), named.1)
    ]),
  )
    where
      first : Bool
      first = is_missing (found_at old name)

      at_last : slice_get now k ≡ Some first
      at_last = ap (λ (xs : List Bool). slice_get xs k) is ∙ ap (slice_get (marks ++ first ∷ [])) (sym long) ∙ slice_get-last marks first

      front : stop < k → slice_get now stop ≡ slice_get marks stop
      front less = ap (λ (xs : List Bool). slice_get xs stop) is
          ∙ slice_get-front marks (first ∷ []) stop (subst (λ (n : ℕ). stop < n) (sym long) less)

      long_now : length now ≡ k + 1
      long_now = ap length is ∙ length-append marks (first ∷ []) ∙ ap (λ (n : ℕ). n + 1) long

      stop_below : slice_get now stop ≡ Some true → stop ≢ k → stop < k
      stop_below here apart =
          omega (arith, apart, subst (λ (n : ℕ). stop < n) long_now (slice_get_within now stop true here))

      -- a listed name whose least stop this is wasn't found before
      is_first : (other : List ℕ) → Contains listed other → IsNamed names other k → first ≡ true
      is_first other h named = by (found_at old name) refl
        where
          same : other ≡ name
          same = same_at names.stops k other name named.0 at

          by : (had : Option Bool) → found_at old name ≡ had → is_missing had ≡ true
          by None e = absurd (are.has name (subst (Contains listed) same h) e)
          by (Some true) e =
              let stop = are.by_stop name e in
              absurd (named.1 stop.0 stop.1 (subst (At names.stops stop.0) (sym same) stop.2.0))
          by (Some false) e = refl

-- a stop has its name
pub stop_has_name : (names : NamesValue) (stop : ℕ) → stop < length names.stops → At names.stops stop (stop_bytes names stop)
stop_has_name names stop less = at ∙ ap Some (sym (ap bytes_or_none at))
  where
    at : slice_get names.stops stop ≡ Some (get_or names.stops stop [])
    at = slice_get-get_or names.stops stop [] less

-- all stops were looked at: the first name that wasn't found is that of no stop
pub unknown_name : (names : NamesValue) (listed : List (List ℕ)) (found : BTreeMap (Bor (List ℕ)) Bool) (number : ℕ)
    → AreFoundBelow names listed (length names.stops) found → IsFirstMissing found listed number → IsUnknownLine names listed number
unknown_name names listed found number are first = record {
  index = first.index;
  name = first.name;
  numbered = first.numbered;
  stands = first.at;
  unknown = λ stop at. by (found_at found first.name) refl stop at;
  before = λ other h. let stop = are.by_stop other (first.before other h) in (stop.0, stop.2);
}
  where
    by : (had : Option Bool) → found_at found first.name ≡ had → (stop : ℕ) → At names.stops stop first.name → ⊥
    by None e stop at = are.has first.name (contains_at listed first.index first.name first.at) e
    by (Some true) e stop at = first.missing e
    by (Some false) e stop at = are.by_none first.name e stop (slice_get_within names.stops stop first.name at) at

-- all names were found: the stops that are marked are those of the names
pub all_marked : (names : NamesValue) (listed : List (List ℕ)) (found : BTreeMap (Bor (List ℕ)) Bool) (marks : List Bool)
    → AreFoundBelow names listed (length names.stops) found → AreMarkedBelow names listed (length names.stops) marks
    → ((name : List ℕ) → Contains listed name → found_at found name ≡ Some true) → AreMarked names listed marks
all_marked names listed found marks are marked all = record {
  all_named = λ name h. let stop = are.by_stop name (all name h) in (stop.0, stop.2);
  exactly = λ stop. (
    (λ here. ((marked stop).0 here).1),
    (λ named. (marked stop).1 (slice_get_within names.stops stop named.0 named.2.0, named)),
  );
}
