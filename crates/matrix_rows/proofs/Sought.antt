-- The names of a list, sought among the stops of an image.
use Rattle.std.proofs.Common.{◌≡◌, ◌⊎◌, ◌<◌, ◌+◌, ℕ, suc, Bool, true, false, List, [], ◌∷◌, ◌++◌, Option, None, Some, length, map, take}
use Rattle.std.proofs.Common.{cond, get_or, slice_get, option_map, sym, ◌∙◌, ap, subst, refl, inl, inr, arith, Contains}
use Rattle.std.specs.Prelude.{if◌then◌else◌}
use Rattle.std.specs.Global.{Vec}
use Rattle.std.specs.List.{AllZip, flat_map}
use Rattle.std.specs.BTreeMap.{BTreeMap, IsEmpty}
use Rattle.std.specs.Borrow.{Bor}
use Rattle.std.specs.Str.{bytes_eq}
use Rattle.std.proofs.lemmas.Bool.{cases_Bool, cases_eq, true≢false}
use Rattle.std.proofs.lemmas.List.Elements.{Contains-append_left, Contains-append_right, Contains-push_cases}
use Rattle.std.proofs.lemmas.Slice.Eq.{bytes_eq-Decides}
use Rattle.std.proofs.lemmas.Slice.Zip.{all_zipped_more}
use Rattle.std.proofs.lemmas.List.{take_more}
use Rattle.std.proofs.lemmas.Option.{get_or_from_slice_get, none-some, same_Some, slice_get-get_or, slice_get-map, slice_get_within}
use Rattle.reasoning.proofs.ListLemmas.{contains_at, contains_cases, not_in_nil, same_at}
use Rattle.timetable.specs.Legal.{At}
use Rattle.timetable.specs.NamesValue.{NamesValue}
use Rattle.image_facts.specs.Naming.{bytes_or_none, stop_bytes}
use Rattle.matrix_rows.specs.Listed.{AreAllNamed, IsUnknownLine, IsUnnamed, ids_in}
use Rattle.journeys.specs.Questions.{IsNamed}
use Rattle.matrix_rows.specs.Sought.{AreFound, AreFoundBelow, AreSought, IsFirstMissing, IsMissing, IsOneMissing, first_of, found_at, now_found}
use Rattle.matrix_rows.specs.Sought.{stop_in}
use Rattle.matrix_rows.specs.declared.lists.SetListFault.{SetListFault}
use Rattle.matrix_rows.specs.declared.lists.SetListFault.TheVariants.{Empty, LineTwice, OutOfMemory, StopTwice, UnknownStop}

-- no name is sought yet
pub none_sought : (found : BTreeMap (Bor (List ℕ)) (Option ℕ)) → IsEmpty found → AreSought [] found
none_sought found empty = record {
  has = λ name h. absurd (not_in_nil name h);
  none = λ name. ap stop_in (nothing name);
}
  where
    nothing : (name : List ℕ) → found_at found name ≡ None
    nothing name = rw empty refl

-- one name more
name_sought : (listed : List (List ℕ)) (name : List ℕ) (old new : BTreeMap (Bor (List ℕ)) (Option ℕ)) → AreSought listed old
    → ((q : List ℕ) → found_at new q ≡ (if bytes_eq name q then Some None else found_at old q)) → AreSought (listed ++ name ∷ []) new
name_sought listed name old new are put = record {
  has = λ q h. by_listed q h (cases_Bool (bytes_eq name q));
  none = λ q. by_none q (cases_Bool (bytes_eq name q));
}
  where
    here : (q : List ℕ) → bytes_eq name q ≡ true → found_at new q ≡ Some None
    here q e = put q ∙ rw e refl

    apart : (q : List ℕ) → bytes_eq name q ≡ false → found_at new q ≡ found_at old q
    apart q e = put q ∙ rw e refl

    by_listed : (q : List ℕ) → Contains (listed ++ name ∷ []) q → (bytes_eq name q ≡ true) ⊎ (bytes_eq name q ≡ false) → found_at new q ≡ Some None
    by_listed q h (inl same) = here q same
    by_listed q h (inr differ) = elim (Contains-push_cases listed name q h) [
      | inl before ↦ apart q differ ∙ are.has q before
      | inr last ↦ absurd (true≢false (sym ((bytes_eq-Decides name q).1 last) ∙ differ))
    ]

    by_none : (q : List ℕ) → (bytes_eq name q ≡ true) ⊎ (bytes_eq name q ≡ false) → stop_in (found_at new q) ≡ None
    by_none q (inl same) = ap stop_in (here q same)
    by_none q (inr differ) = ap stop_in (apart q differ) ∙ are.none q

-- one line is longer by its next name
pub more_listed : (listed : List (List ℕ)) (index : ℕ) (name : List ℕ) → slice_get listed index ≡ Some name
    → take (index + 1) listed ≡ take index listed ++ name ∷ []
more_listed listed index name at =
    take_more listed index name (slice_get_within listed index name at)
    ∙ ap (λ (x : List ℕ). take index listed ++ x ∷ []) (get_or_from_slice_get listed index name name at)

-- the item at an index is the next name
pub at_index : {A : Type 0} (f : A → List ℕ) (items : List A) (index : ℕ) (d : A) → index < length items
    → slice_get (map f items) index ≡ Some (f (get_or items index d))
at_index f items index d less = slice_get-map f items index ∙ ap (option_map f) (slice_get-get_or items index d less)

-- the names so far are sought, and so is the next one
pub item_sought : {A : Type 0} (f : A → List ℕ) (items : List A) (index : ℕ) (d : A) (old new : BTreeMap (Bor (List ℕ)) (Option ℕ))
    → index < length items → AreSought (take index (map f items)) old
    → ((q : List ℕ) → found_at new q ≡ (if bytes_eq (f (get_or items index d)) q then Some None else found_at old q))
    → AreSought (take (index + 1) (map f items)) new
item_sought f items index d old new less are put =
    let name = f (get_or items index d) in
    subst (λ (names : List (List ℕ)). AreSought names new) (sym (more_listed (map f items) index name (at_index f items index d less)))
    (name_sought (take index (map f items)) name old new are put)

-- what a name has once a stop was found
pub found_now : (name q : List ℕ) (old : List ℕ → Option (Option ℕ)) (seen now : Option ℕ) (stop : ℕ) (new : Option (Option ℕ)) → old name ≡ Some seen
    → now ≡ Some (first_of seen stop) → new ≡ cond (bytes_eq name q) (Some now) (old q)
    → new ≡ (if bytes_eq name q then now_found stop (old q) else old q)
found_now name q old seen now stop new had is put = by (bytes_eq name q) (λ e. ap old (sym ((bytes_eq-Decides name q).0 e)) ∙ had) put
  where
    by : (b : Bool) → (b ≡ true → old q ≡ Some seen) → new ≡ cond b (Some now) (old q) → new ≡ (if b then now_found stop (old q) else old q)
    by true same e = e ∙ ap (λ (o : Option ℕ). Some o) is ∙ sym (ap (now_found stop) (same refl))
    by false same e = e

-- what a name has if the list doesn't have it
pub not_found_now : (name q : List ℕ) (old : List ℕ → Option (Option ℕ)) (stop : ℕ) → old name ≡ None
    → old q ≡ (if bytes_eq name q then now_found stop (old q) else old q)
not_found_now name q old stop none = by (bytes_eq name q) (λ e. ap old (sym ((bytes_eq-Decides name q).0 e)) ∙ none)
  where
    by : (b : Bool) → (b ≡ true → old q ≡ None) → old q ≡ (if b then now_found stop (old q) else old q)
    by true same = same refl ∙ sym (ap (now_found stop) (same refl))
    by false same = refl

-- before a stop was looked at none is found
pub none_found : (names : NamesValue) (listed : List (List ℕ)) (found : BTreeMap (Bor (List ℕ)) (Option ℕ)) → AreSought listed found
    → AreFoundBelow names listed 0 found
none_found names listed found are = record {
  has = λ name h none. none-some None (sym none ∙ are.has name h);
  by_stop = λ name stop is. absurd (none-some stop (sym (are.none name) ∙ is));
  by_none = λ name is stop less. absurd (omega (arith, less));
}

-- what a name has after a stop was looked at
none_now : (k : ℕ) (b : Bool) (old : Option (Option ℕ)) → (if b then now_found k old else old) ≡ None → old ≡ None
none_now k b None e = refl
none_now k true (Some x) e = absurd (none-some (Some (first_of x k)) (sym e))
none_now k false (Some x) e = absurd (none-some x (sym e))

missing_now : (k : ℕ) (b : Bool) (old : Option (Option ℕ)) → (if b then now_found k old else old) ≡ Some None → (b ≡ false) × (old ≡ Some None)
missing_now k true None e = absurd (none-some None e)
missing_now k true (Some x) e = absurd (none-some (first_of x k) (sym (same_Some (Some (first_of x k)) None e)))
missing_now k false old e = (refl, e)

found_by : (k : ℕ) (b : Bool) (old : Option (Option ℕ)) (stop : ℕ) → stop_in (if b then now_found k old else old) ≡ Some stop
    → (stop_in old ≡ Some stop) ⊎ ((b ≡ true) × (old ≡ Some None) × (k ≡ stop))
found_by k true None stop e = absurd (none-some stop e)
found_by k true (Some None) stop e = inr (refl, refl, same_Some k stop e)
found_by k true (Some (Some first)) stop e = inl e
found_by k false old stop e = inl e

-- the next stop is looked at, which has a name
module _ (names : NamesValue) (listed : List (List ℕ)) (k : ℕ) (name : List ℕ) (old new : BTreeMap (Bor (List ℕ)) (Option ℕ))
    (at : At names.stops k name) (are : AreFoundBelow names listed k old)
    (put : (q : List ℕ) → found_at new q ≡ (if bytes_eq name q then now_found k (found_at old q) else found_at old q)) where
  least_at : (q : List ℕ) → name ≡ q → found_at old q ≡ Some None → IsNamed names q k
  least_at q same missing = (subst (At names.stops k) same at, λ j less other. are.by_none q missing j less other)

  pub stop_found_more : AreFoundBelow names listed (k + 1) new
  stop_found_more = record {
    has = λ q h none. are.has q h (none_now k (bytes_eq name q) (found_at old q) (sym (put q) ∙ none));
    by_stop = λ q stop is. elim (found_by k (bytes_eq name q) (found_at old q) stop (sym (ap stop_in (put q)) ∙ is)) [
      | inl before ↦ are.by_stop q stop before
      | inr here ↦ subst (IsNamed names q) here.2 (least_at q ((bytes_eq-Decides name q).0 here.0) here.1)
    ];
    by_none = λ q is stop less other.
        let missing = missing_now k (bytes_eq name q) (found_at old q) (sym (put q) ∙ is) in
        elim (cases_eq stop k) [
          | inl here ↦
              let same : name ≡ q = same_at names.stops k name q at (subst (λ (i : ℕ). At names.stops i q) here other) in
              true≢false (sym ((bytes_eq-Decides name q).1 same) ∙ missing.0)
          | inr apart ↦ are.by_none q missing.1 stop (omega (arith, less, apart)) other
        ];
  }

-- a stop has its name
pub stop_has_name : (names : NamesValue) (stop : ℕ) → stop < length names.stops → At names.stops stop (stop_bytes names stop)
stop_has_name names stop less = at ∙ ap Some (sym (ap bytes_or_none at))
  where
    at : slice_get names.stops stop ≡ Some (get_or names.stops stop [])
    at = slice_get-get_or names.stops stop [] less

-- each of the first of two lists, pair by pair, has one of the second
zipped_left : {A B : Type 0} (R : A → B → Type 0) (xs : List A) (ys : List B) → AllZip R xs ys → (x : A) → Contains xs x → (y : B) × R x y
zipped_left R [] ys zipped x h = absurd (not_in_nil x h)
zipped_left R (z ∷ xs) [] zipped x h = absurd zipped
zipped_left R (z ∷ xs) (y ∷ ys) zipped x h = elim (contains_cases x z xs h) [
  | inl same ↦ (y, subst (λ a. R a y) same zipped.0)
  | inr rest ↦ zipped_left R xs ys zipped.1 x rest
]

zipped_each : {A B : Type 0} (R S : A → B → Type 0) (xs : List A) (ys : List B) → ((x : A) (y : B) → R x y → S x y) → AllZip R xs ys → AllZip S xs ys
zipped_each R S [] [] each zipped = zipped
zipped_each R S [] (y ∷ ys) each zipped = absurd zipped
zipped_each R S (x ∷ xs) [] each zipped = absurd zipped
zipped_each R S (x ∷ xs) (y ∷ ys) each zipped = (each x y zipped.0, zipped_each R S xs ys each zipped.1)

-- the stops of the names so far, and of the next one
pub item_stop : {A : Type 0} (f : A → List ℕ) (items : List A) (index : ℕ) (d : A) (found : BTreeMap (Bor (List ℕ)) (Option ℕ)) (stops now : List ℕ) (stop : ℕ)
    → index < length items → AllZip (λ name s. stop_in (found_at found name) ≡ Some s) (take index (map f items)) stops
    → stop_in (found_at found (f (get_or items index d))) ≡ Some stop → now ≡ stops ++ stop ∷ []
    → AllZip (λ name s. stop_in (found_at found name) ≡ Some s) (take (index + 1) (map f items)) now
item_stop f items index d found stops now stop less zipped is pushed =
    let name = f (get_or items index d) in
    subst (λ (ns : List (List ℕ)). AllZip (λ n s. stop_in (found_at found n) ≡ Some s) ns now)
    (sym (more_listed (map f items) index name (at_index f items index d less)))
    (subst (AllZip (λ n s. stop_in (found_at found n) ≡ Some s) (take index (map f items) ++ name ∷ [])) (sym pushed)
    (all_zipped_more (λ n s. stop_in (found_at found n) ≡ Some s) (take index (map f items)) stops name stop zipped is))

-- a name for which none was found
pub item_missing : {A : Type 0} (f : A → List ℕ) (items : List A) (index : ℕ) (d : A) (found : BTreeMap (Bor (List ℕ)) (Option ℕ)) → index < length items
    → stop_in (found_at found (f (get_or items index d))) ≡ None → IsOneMissing found (map f items)
item_missing f items index d found less is =
    let name = f (get_or items index d) in
    (name, contains_at (map f items) index name (at_index f items index d less), is)

-- the sets of the lines so far, and of the next one
pub set_more : {A : Type 0} (f : A → List ℕ) (items : List A) (index : ℕ) (d : A) (found : BTreeMap (Bor (List ℕ)) (Option ℕ)) (sets now : List (Vec ℕ))
    (set : Vec ℕ) → index < length items → AllZip (λ line s. AreFound found (ids_in line) s.items) (take index (map f items)) sets
    → AreFound found (ids_in (f (get_or items index d))) set.items → now ≡ sets ++ set ∷ []
    → AllZip (λ line s. AreFound found (ids_in line) s.items) (take (index + 1) (map f items)) now
set_more f items index d found sets now set less zipped is pushed =
    let line = f (get_or items index d) in
    let R = λ (l : List ℕ) (s : Vec ℕ). AreFound found (ids_in l) s.items in
    subst (λ (ls : List (List ℕ)). AllZip R ls now) (sym (more_listed (map f items) index line (at_index f items index d less)))
    (subst (AllZip R (take index (map f items) ++ line ∷ [])) (sym pushed)
    (all_zipped_more R (take index (map f items)) sets line set zipped is))

-- the lines so far have sets, and the next one has a stop_id without a stop
pub line_missing : {A : Type 0} (f : A → List ℕ) (items : List A) (index : ℕ) (d : A) (found : BTreeMap (Bor (List ℕ)) (Option ℕ)) (sets : List (Vec ℕ))
    (ids : List (List ℕ)) → index < length items → AllZip (λ line s. AreFound found (ids_in line) s.items) (take index (map f items)) sets
    → ids ≡ ids_in (f (get_or items index d)) → IsOneMissing found ids → IsFirstMissing found (map f items) (index + 1)
line_missing f items index d found sets ids less zipped are missing = record {
  index = index;
  line = f (get_or items index d);
  numbered = more index;
  stands = at_index f items index d less;
  missing = subst (IsOneMissing found) are missing;
  sets = sets;
  before = zipped;
}
  where
    more : (n : ℕ) → n + 1 ≡ suc n
    more n = omega arith

-- all stops were looked at: those that were found are those of the names
named_by : (names : NamesValue) (listed ids : List (List ℕ)) (below : ℕ) (found : BTreeMap (Bor (List ℕ)) (Option ℕ)) (stops : List ℕ)
    → AreFoundBelow names listed below found → AreFound found ids stops → AllZip (IsNamed names) ids stops
named_by names listed ids below found stops are zipped =
    zipped_each (λ name s. stop_in (found_at found name) ≡ Some s) (IsNamed names) ids stops (λ name s is. are.by_stop name s is) zipped

pub all_named : (names : NamesValue) (ids : List (List ℕ)) (listed : List (List ℕ)) (below : ℕ) (found : BTreeMap (Bor (List ℕ)) (Option ℕ))
    (sets : List (Vec ℕ)) → AreFoundBelow names ids below found → AllZip (λ line s. AreFound found (ids_in line) s.items) listed sets
    → AllZip (λ line set. AllZip (IsNamed names) (ids_in line) set.items) listed sets
all_named names ids listed below found sets are zipped =
    zipped_each (λ line s. AreFound found (ids_in line) s.items) (λ line set. AllZip (IsNamed names) (ids_in line) set.items) listed sets
    (λ line set is. named_by names ids (ids_in line) below found set.items are is) zipped

-- what is said of the stop_ids of lines is said of their stops
pub all_have_stops : (names : NamesValue) (listed : List (List ℕ)) (sets : List (Vec ℕ))
    → AllZip (λ line set. AllZip (IsNamed names) (ids_in line) set.items) listed sets → AreAllNamed names listed
all_have_stops names listed sets zipped = λ line h id within.
    let set = zipped_left (λ l s. AllZip (IsNamed names) (ids_in l) s.items) listed sets zipped line h in
    zipped_left (IsNamed names) (ids_in line) set.0.items set.1 id within

-- a stop_id of a line is one of those of all lines
id_of_line : (listed : List (List ℕ)) (line id : List ℕ) → Contains listed line → Contains (ids_in line) id → Contains (flat_map ids_in listed) id
id_of_line [] line id h within = absurd (not_in_nil line h)
id_of_line (first ∷ listed) line id h within = elim (contains_cases line first listed h) [
  | inl same ↦ Contains-append_left (ids_in first) (flat_map ids_in listed) id (subst (λ (l : List ℕ). Contains (ids_in l) id) (sym same) within)
  | inr rest ↦ Contains-append_right (ids_in first) (flat_map ids_in listed) id (id_of_line listed line id rest within)
]

-- and the first line that has a stop_id without one has what is that of no stop
unknown_line : (names : NamesValue) (listed : List (List ℕ)) (found : BTreeMap (Bor (List ℕ)) (Option ℕ)) (number : ℕ)
    → AreFoundBelow names (flat_map ids_in listed) (length names.stops) found → IsFirstMissing found listed number → IsUnknownLine names listed number
unknown_line names listed found number are first = record {
  index = first.index;
  line = first.line;
  id = first.missing.0;
  numbered = first.numbered;
  stands = first.stands;
  has = first.missing.1;
  unknown = λ stop at. by (found_at found first.missing.0) refl stop at;
  before = all_have_stops names (take first.index listed) first.sets
      (all_named names (flat_map ids_in listed) (take first.index listed) (length names.stops) found first.sets are first.before);
}
  where
    there : Contains (flat_map ids_in listed) first.missing.0
    there = id_of_line listed first.line first.missing.0 (contains_at listed first.index first.line first.stands) first.missing.1

    by : (had : Option (Option ℕ)) → found_at found first.missing.0 ≡ had → (stop : ℕ) → At names.stops stop first.missing.0 → ⊥
    by None e stop at = are.has first.missing.0 there e
    by (Some None) e stop at = are.by_none first.missing.0 e stop (slice_get_within names.stops stop first.missing.0 at) at
    by (Some (Some n)) e stop at = none-some n (sym first.missing.2 ∙ ap stop_in e)

pub unnamed : (names : NamesValue) (listed : List (List ℕ)) (found : BTreeMap (Bor (List ℕ)) (Option ℕ)) (fault : SetListFault)
    → AreFoundBelow names (flat_map ids_in listed) (length names.stops) found → IsMissing found listed fault → IsUnnamed names listed fault
unnamed names listed found (UnknownStop number) are missing = unknown_line names listed found number are missing
unnamed names listed found (StopTwice number) are missing = missing
unnamed names listed found (LineTwice first second) are missing = missing
unnamed names listed found Empty are missing = missing
unnamed names listed found OutOfMemory are missing = missing

pub no_stops : (found : BTreeMap (Bor (List ℕ)) (Option ℕ)) (stops : List ℕ) → stops ≡ [] → AreFound found [] stops
no_stops found stops none = subst (AllZip (λ name s. stop_in (found_at found name) ≡ Some s) []) (sym none) tt

pub no_sets : (found : BTreeMap (Bor (List ℕ)) (Option ℕ)) (sets : List (Vec ℕ)) → sets ≡ []
    → AllZip (λ line s. AreFound found (ids_in line) s.items) [] sets
no_sets found sets none = subst (AllZip (λ line s. AreFound found (ids_in line) s.items) []) (sym none) tt

zipped_right : {A B : Type 0} (R : A → B → Type 0) (xs : List A) (ys : List B) → AllZip R xs ys → (y : B) → Contains ys y → (x : A) × R x y
zipped_right R xs [] zipped y h = absurd (not_in_nil y h)
zipped_right R [] (z ∷ ys) zipped y h = absurd zipped
zipped_right R (x ∷ xs) (z ∷ ys) zipped y h = elim (contains_cases y z ys h) [
  | inl same ↦ (x, subst (R x) same zipped.0)
  | inr rest ↦ zipped_right R xs ys zipped.1 y rest
]

pub all_within : (names : NamesValue) (listed : List (List ℕ)) (sets : List (Vec ℕ))
    → AllZip (λ line set. AllZip (IsNamed names) (ids_in line) set.items) listed sets
    → (set : Vec ℕ) → Contains sets set → (stop : ℕ) → Contains set.items stop → stop < length names.stops
all_within names listed sets zipped set h stop within =
    let line = zipped_right (λ l s. AllZip (IsNamed names) (ids_in l) s.items) listed sets zipped set h in
    let name = zipped_right (IsNamed names) (ids_in line.0) set.items line.1 stop within in
    slice_get_within names.stops stop name.0 name.1.0
