-- What the shelves keep when one of them changes.
use Rattle.std.proofs.Common.{◌≡◌, ◌≢◌, ℕ, ◌+◌, ◌<◌, List, length, set, Some, None, slice_get, ap, sym, ◌∙◌, arith, ◌⊎◌, inl, inr, length-set}
use Rattle.std.specs.Option.{option_and_then}
use Rattle.std.proofs.lemmas.Option.{slice_get_within}
use mathlib.Core.Logic.{dite}
use native.Mathlib.Decide.{ℕ_discrete}
use Rattle.reasoning.proofs.ListLemmas.{slice_get-set_same, slice_get-set_other}
use Rattle.version_core.specs.declared.state.Shelf.{Shelf}
use Rattle.version_core.specs.Invariants.{version_of, version_on, ShelvesFit, NewestIsOpen}
use Rattle.version_core.proofs.Lists.{slice_get-set}

-- the version of a shelf that is found
pub version_at : (xs : List Shelf) (k : ℕ) (x : Shelf) → slice_get xs k ≡ Some x → version_on xs k ≡ version_of x
version_at xs k x is = ap (λ o. option_and_then version_of o) is

version_on-set_same : (xs : List Shelf) (k : ℕ) (y : Shelf) → k < length xs → version_on (set xs k y) k ≡ version_of y
version_on-set_same xs k y within = version_at (set xs k y) k y (slice_get-set_same xs k y within)

pub version_on-set_other : (xs : List Shelf) (k j : ℕ) (y : Shelf) → j ≢ k → version_on (set xs k y) j ≡ version_on xs j
version_on-set_other xs k j y other = ap (λ o. option_and_then version_of o) (slice_get-set_other xs k j y other)

-- a version after a shelf was changed is that shelf's, or stood where it was before
version_on-set : (xs : List Shelf) (k j v : ℕ) (y : Shelf) → k < length xs → version_on (set xs k y) j ≡ Some v
    → ((j ≡ k) × (version_of y ≡ Some v)) ⊎ ((j ≢ k) × (version_on xs j ≡ Some v))
version_on-set xs k j v y within has =
    dite (ℕ_discrete j k)
    (λ e. let same : version_on (set xs k y) j ≡ version_of y =
    ap (λ n. version_on (set xs k y) n) e ∙ version_on-set_same xs k y within in inl (e, sym same ∙ has))
    (λ e. inr (e, sym (version_on-set_other xs k j y e) ∙ has))

-- a shelf that is something else than the one that was changed
other_shelf : (xs : List Shelf) (k j : ℕ) (x y z : Shelf) → slice_get xs k ≡ Some x → x ≢ z → slice_get xs j ≡ Some z → slice_get (set xs k y) j ≡ Some z
other_shelf xs k j x y z here apart there =
    slice_get-set_other xs k j y (λ e. let same : Some x ≡ Some z =
    sym here ∙ (ap (λ n. slice_get xs n) (sym e) ∙ there) in
    apart (cc)) ∙ there

-- the newest version stays open, if it is not the one on the shelf that was changed
newest_stays : (xs : List Shelf) (current newest k : ℕ) (x y : Shelf) → slice_get xs k ≡ Some x
    → (newest ≡ current + 1 → x ≢ Shelf.Open newest) → NewestIsOpen current newest xs
    → NewestIsOpen current newest (set xs k y)
newest_stays xs current newest k x y here apart is =
    elim is [ inl a ↦ inl a | inr b ↦ inr (b.0, (b.1.0, other_shelf xs k b.1.0 x y (Shelf.Open newest) here (apart b.0) b.1.1)) ]

-- what a free shelf has not, stays where it is when that shelf is opened
pub opening_stays : (xs : List Shelf) (k n j v : ℕ) → slice_get xs k ≡ Some Shelf.Free → version_on xs j ≡ Some v
    → version_on (set xs k (Shelf.Open n)) j ≡ Some v
opening_stays xs k n j v free has =
    version_on-set_other xs k j (Shelf.Open n) (λ e. let none : version_on xs j ≡ None =
    ap (λ i. version_on xs i) e
    ∙ version_at xs k Shelf.Free free in absurd (cc)) ∙ has

pub shelves_open : (current at newest k : ℕ) (xs : List Shelf) → ShelvesFit current at newest xs → newest ≡ current
    → slice_get xs k ≡ Some Shelf.Free → ShelvesFit current at (newest + 1) (set xs k (Shelf.Open (newest + 1)))
shelves_open current at newest k xs fit rest free =
    let within = slice_get_within xs k Shelf.Free free in
    let n = newest + 1 in
    let new : (j v : ℕ) → version_on (set xs k (Shelf.Open n)) j ≡ Some v → ((j ≡ k) × (v ≡ n)) ⊎ ((j ≢ k) × (version_on xs j ≡ Some v)) =
    λ j v has. elim (version_on-set xs k j v (Shelf.Open n) within has) [ inl a ↦ inl (a.0, (let e = a.1 in cc)) | inr b ↦ inr b ] in
    record {
      eight = length-set xs k _ ∙ fit.eight;
      current_open = other_shelf xs k at Shelf.Free (Shelf.Open n) (Shelf.Open current) free (λ q. cc) fit.current_open;
      newest_open = inr ((omega arith), (k, slice_get-set_same xs k (Shelf.Open n) within));
      known = λ j v has. elim (new j v has) [ inl a ↦ (let e = a.1 in (omega arith, omega arith)) | inr b ↦ (let q = fit.known j v b.1 in (q.0, omega arith)) ];
      apart = λ i j v one two. elim (new i v one) [
        | inl a ↦ elim (new j v two) [ inl b ↦ a.0 ∙ sym b.0 | inr b ↦ (let q = fit.known j v b.1 in let e = a.1 in absurd (omega arith)) ]
        | inr a ↦ elim (new j v two) [ inl b ↦ (let q = fit.known i v a.1 in let e = b.1 in absurd (omega arith)) | inr b ↦ fit.apart i j v a.1 b.1 ]
      ];
      closing_old = λ j v is. elim (slice_get-set xs k j (Shelf.Open n) (Shelf.Closing v) within is) [
        | inl a ↦
            absurd (let e = a.1 in cc)
        | inr b ↦ fit.closing_old j v b.1
      ];
    }

pub shelves_publish : (current at newest k v : ℕ) (xs : List Shelf) → ShelvesFit current at newest xs
    → slice_get xs k ≡ Some (Shelf.Open v) → current < v → ShelvesFit v k newest xs
shelves_publish current at newest k v xs fit here later =
    let most = fit.known k v (version_at xs k (Shelf.Open v) here) in
    record {
      eight = fit.eight;
      current_open = here;
      newest_open = inl (elim fit.newest_open [ inl a ↦ absurd (omega arith) | inr b ↦ (let q = b.0 in omega arith) ]);
      known = fit.known;
      apart = fit.apart;
      closing_old = λ j x is. let q = fit.closing_old j x is in omega arith;
    }

-- a version that begins to close stays where it is
pub closing_stays : (xs : List Shelf) (k v j x : ℕ) → slice_get xs k ≡ Some (Shelf.Open v) → version_on xs j ≡ Some x
    → version_on (set xs k (Shelf.Closing v)) j ≡ Some x
closing_stays xs k v j x here has =
    dite (ℕ_discrete j k)
    (λ e. ap (λ n. version_on (set xs k (Shelf.Closing v)) n) e
    ∙ (version_on-set_same xs k (Shelf.Closing v) (slice_get_within xs k (Shelf.Open v) here)
    ∙ (sym (version_at xs k (Shelf.Open v) here) ∙ (ap (λ n. version_on xs n) (sym e) ∙ has))))
    (λ e. version_on-set_other xs k j (Shelf.Closing v) e ∙ has)

stood_before_closing : (xs : List Shelf) (k v j x : ℕ) → slice_get xs k ≡ Some (Shelf.Open v)
    → version_on (set xs k (Shelf.Closing v)) j ≡ Some x → version_on xs j ≡ Some x
stood_before_closing xs k v j x here has =
    elim (version_on-set xs k j x (Shelf.Closing v) (slice_get_within xs k (Shelf.Open v) here) has) [
      | inl a ↦ ap (λ n. version_on xs n) a.0 ∙ (version_at xs k (Shelf.Open v) here ∙ a.1)
      | inr b ↦ b.1
    ]

pub shelves_close : (current at newest k v : ℕ) (xs : List Shelf) → ShelvesFit current at newest xs
    → slice_get xs k ≡ Some (Shelf.Open v) → v < current → ShelvesFit current at newest (set xs k (Shelf.Closing v))
shelves_close current at newest k v xs fit here old =
    let within = slice_get_within xs k (Shelf.Open v) here in
    let apart : (x : ℕ) → v < x → (Shelf.Open v) ≢ (Shelf.Open x) = λ x less e. let q : v ≡ x = cc in omega arith in
    record {
      eight = length-set xs k _ ∙ fit.eight;
      current_open = other_shelf xs k at (Shelf.Open v) (Shelf.Closing v) (Shelf.Open current) here (apart current old) fit.current_open;
      newest_open = newest_stays xs current newest k (Shelf.Open v) (Shelf.Closing v) here (λ e. apart newest (omega arith)) fit.newest_open;
      known = λ j x has. fit.known j x (stood_before_closing xs k v j x here has);
      apart = λ i j x one two. fit.apart i j x (stood_before_closing xs k v i x here one) (stood_before_closing xs k v j x here two);
      closing_old = λ j x is. elim (slice_get-set xs k j (Shelf.Closing v) (Shelf.Closing x) within is) [
        | inl a ↦
            (let e = a.1 in let q : x ≡ v = cc in omega arith)
        | inr b ↦ fit.closing_old j x b.1
      ];
    }

stood_before_freeing : (xs : List Shelf) (k j x : ℕ) → k < length xs → version_on (set xs k Shelf.Free) j ≡ Some x → version_on xs j ≡ Some x
stood_before_freeing xs k j x within has = elim (version_on-set xs k j x Shelf.Free within has) [ inl a ↦ absurd (let e = a.1 in cc) | inr b ↦ b.1 ]

pub shelves_free : (current at newest k v : ℕ) (xs : List Shelf) → ShelvesFit current at newest xs
    → slice_get xs k ≡ Some (Shelf.Closing v) → ShelvesFit current at newest (set xs k Shelf.Free)
shelves_free current at newest k v xs fit here =
    let within = slice_get_within xs k (Shelf.Closing v) here in
    record {
      eight = length-set xs k _ ∙ fit.eight;
      current_open = other_shelf xs k at (Shelf.Closing v) Shelf.Free (Shelf.Open current) here (λ q. cc) fit.current_open;
      newest_open = newest_stays xs current newest k (Shelf.Closing v) Shelf.Free here (λ _ q. cc) fit.newest_open;
      known = λ j x has. fit.known j x (stood_before_freeing xs k j x within has);
      apart = λ i j x one two. fit.apart i j x (stood_before_freeing xs k i x within one) (stood_before_freeing xs k j x within two);
      closing_old = λ j x is. elim (slice_get-set xs k j Shelf.Free (Shelf.Closing x) within is) [
        | inl a ↦
            absurd (let e = a.1 in cc)
        | inr b ↦ fit.closing_old j x b.1
      ];
    }

-- nothing waits to be published where the newest version is current
pub none_unpublished : (current at newest : ℕ) (xs : List Shelf) → ShelvesFit current at newest xs → newest ≡ current
    → (k v : ℕ) → slice_get xs k ≡ Some (Shelf.Open v) → current < v → ⊥
none_unpublished current at newest xs fit rest k v here later = let q = fit.known k v (version_at xs k (Shelf.Open v) here) in omega arith
