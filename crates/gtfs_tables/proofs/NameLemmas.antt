-- What an id names, one row at a time.
use Rattle.std.proofs.Common.{◌≡◌, [], ◌∷◌, ◌++◌, map, ℕ, ◌+◌, ◌<◌, List, length, get_or, take, true, false, Option}
use Rattle.std.proofs.Common.{Some, None, refl, sym, ap, ◌∙◌, cond, inl, inr, ◌⊎◌}
use Rattle.std.specs.Prelude.{count_by, if◌then◌else◌}
use Rattle.std.specs.Borrow.{Bor}
use Rattle.std.specs.List.{slice_get}
use Rattle.std.specs.Option.{option_or}
use Rattle.std.specs.Str.{bytes_eq}
use Rattle.std.specs.String.{string_bytes}
use Rattle.std.specs.HashMap.{Updates, IsEmpty}
use Rattle.std.proofs.lemmas.Bool.{cases_Bool}
use Rattle.std.proofs.lemmas.List.{map-append}
use Rattle.std.proofs.lemmas.Map.Text.{hash_map_updates_str}
use Rattle.std.proofs.lemmas.Option.{slice_get_read}
use Rattle.std.proofs.lemmas.Slice.Eq.{bytes_eq-Decides}
use Rattle.reasoning.proofs.FirstLemmas.{first_below-next}
use Rattle.reasoning.proofs.OrderLemmas.{texts_differ}
use Rattle.indexmap.specs.IndexMap.{IndexMap}
use Rattle.gtfs_rows.specs.Tables.{is_stop}
use Rattle.gtfs_rows.specs.declared.rows.StopRow.{StopRow}
use Rattle.gtfs_rows.specs.declared.rows.TripRow.{TripRow}
use Rattle.gtfs_tables.specs.First.{first_below}
use Rattle.gtfs_tables.specs.Names.{held_at, named_as, stop_with, trip_with}

pub trip_named-more : (trips : List TripRow) (k : ℕ) (row : TripRow) (id : List ℕ) → k < length trips → row ≡ get_or trips k row
    → first_below (trip_with trips id) (k + 1) ≡ option_or (first_below (trip_with trips id) k) (if bytes_eq id (string_bytes row.id) then Some k else None)
trip_named-more trips k row id lt e =
    let found : slice_get trips k ≡ Some row = slice_get_read trips (length trips) k row refl lt e in
    rw (first_below-next (trip_with trips id) k, found) refl

pub stop_named-more : (stops : List StopRow) (k : ℕ) (row : StopRow) (id : List ℕ) → k < length stops → row ≡ get_or stops k row
    → first_below (stop_with stops id) (k + 1)
    ≡ option_or (first_below (stop_with stops id) k)
    (if bytes_eq id (string_bytes row.id) then Some (named_as row.location (count_by is_stop (take k stops)) k) else
    None)
stop_named-more stops k row id lt e =
    let found : slice_get stops k ≡ Some row = slice_get_read stops (length stops) k row refl lt e in
    rw (first_below-next (stop_with stops id) k, found) refl

option_or-nothing : {X : Type 0} (o : Option X) → option_or o None ≡ o
option_or-nothing None = refl
option_or-nothing (Some x) = refl

-- the same bytes the other way round
same_way : (a b : List ℕ) → bytes_eq a b ≡ true → (b ≡ a) × (bytes_eq b a ≡ true)
same_way a b e =
    let same : a ≡ b = (bytes_eq-Decides a b).0 e in
    (sym same, (bytes_eq-Decides b a).1 (sym same))

-- an id that the map hasn't is put in
pub held-put : {X S : Type 0} (m n : IndexMap (Bor (List ℕ)) X S) (id : Bor (List ℕ)) (name : X) → held_at m id.now ≡ None
    → Updates (λ x y. bytes_eq x.now y.now) m n id (Some name) → (q : List ℕ)
    → held_at n q ≡ option_or (held_at m q) (if bytes_eq q id.now then Some name else None)
held-put m n id name none put q = by (cases_Bool (bytes_eq id.now q))
  where
    after : held_at n q ≡ cond (bytes_eq id.now q) (Some name) (held_at m q)
    after = hash_map_updates_str id.now m n (Some name) put q

    by : (bytes_eq id.now q ≡ true) ⊎ (bytes_eq id.now q ≡ false) → held_at n q ≡ option_or (held_at m q) (if bytes_eq q id.now then Some name else None)
    by (inl t) =
        let back = same_way id.now q t in
        let before : held_at m q ≡ None = ap (held_at m) back.0 ∙ none in
        after ∙ rw (t, before, back.1) refl
    by (inr f) = after ∙ rw (f, texts_differ id.now q f) (sym (option_or-nothing (held_at m q)))

-- an id that the map has keeps what it has
pub held-kept : {X S : Type 0} (m n o : IndexMap (Bor (List ℕ)) X S) (id : Bor (List ℕ)) (first name : X) → held_at m id.now ≡ Some first
    → Updates (λ x y. bytes_eq x.now y.now) m n id (Some name) → Updates (λ x y. bytes_eq x.now y.now) n o id (Some first) → (q : List ℕ)
    → held_at o q ≡ option_or (held_at m q) (if bytes_eq q id.now then Some name else None)
held-kept m n o id first name some put back q = by (cases_Bool (bytes_eq id.now q))
  where
    mid : held_at n q ≡ cond (bytes_eq id.now q) (Some name) (held_at m q)
    mid = hash_map_updates_str id.now m n (Some name) put q

    after : held_at o q ≡ cond (bytes_eq id.now q) (Some first) (held_at n q)
    after = hash_map_updates_str id.now n o (Some first) back q

    by : (bytes_eq id.now q ≡ true) ⊎ (bytes_eq id.now q ≡ false) → held_at o q ≡ option_or (held_at m q) (if bytes_eq q id.now then Some name else None)
    by (inl t) =
        let way = same_way id.now q t in
        let before : held_at m q ≡ Some first = ap (held_at m) way.0 ∙ some in
        after ∙ rw (t, before) refl
    by (inr f) = after ∙ rw (f) (mid ∙ rw (f, texts_differ id.now q f) (sym (option_or-nothing (held_at m q))))

pub held-none : {X S : Type 0} (m : IndexMap (Bor (List ℕ)) X S) (q : List ℕ) → IsEmpty m → held_at m q ≡ None
held-none m q e = rw e refl

-- what a function gives of the items so far
pub named-push : {A B : Type 0} (f : A → B) (xs : List A) (ys : List B) (x : A) (y : B) → ys ≡ map f xs → y ≡ f x → ys ++ y ∷ [] ≡ map f (xs ++ x ∷ [])
named-push f xs ys x y e here = rw (e, here) (sym (map-append f xs (x ∷ [])))

pub named-end : {A B : Type 0} (f : A → B) (lent : List (Bor A)) (xs : List A) → map (λ x. x.now) lent ≡ xs → map (λ x. f x.now) lent ≡ map f xs
named-end f lent xs e = both f lent ∙ ap (map f) e
  where
    both : {A B : Type 0} (f : A → B) (lent : List (Bor A)) → map (λ x. f x.now) lent ≡ map f (map (λ x. x.now) lent)
    both f [] = refl
    both f (x ∷ lent) = ap (λ rest. f x.now ∷ rest) (both f lent)
