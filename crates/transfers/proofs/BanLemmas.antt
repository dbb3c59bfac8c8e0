-- The bans of transfers: listed, sorted and looked up.
use Rattle.std.proofs.Common.{◌≡◌, ◌⊎◌, inl, inr, ℕ, ◌+◌, ◌<◌, List, [], ◌∷◌, ◌++◌, length, take, get_or, Option, Some, None, Contains, refl}
use Rattle.std.proofs.Common.{sym, ap, subst, ◌∙◌, arith, Result, Ok, Err, is_ok, true, false}
use Rattle.std.specs.declared.cmp.Ordering.{Ordering}
use Rattle.std.specs.declared.cmp.Ordering.TheVariants.{Less, Equal, Greater}
use Rattle.std.specs.Ordering.{is_lt, is_gt, nat_cmp, ordering_then}
use Rattle.std.specs.List.Sorted.{IsBinarySearchResult, IsPermutation, IsSearchInRange, IsSorted}
use Rattle.std.proofs.lemmas.Bool.{cases_eq, cases_lt, false≢true, true≢false}
use Rattle.std.proofs.lemmas.Bool.Decides.{nat_tests}
use Rattle.std.proofs.lemmas.List.{take_more, take_all}
use Rattle.std.proofs.lemmas.List.Elements.{Contains-push, Contains-push_cases, Contains-append_left, Contains-get_or}
use Rattle.std.proofs.lemmas.List.Sorted.{Contains-permutation, IsPermutation-sym, searchable_from_sorted}
use Rattle.std.proofs.lemmas.Option.{same_Some, none-some}
use Rattle.reasoning.proofs.ListLemmas.{not_in_nil, contains_first, contains_rest, contains_cases}
use Rattle.reasoning.proofs.OrderLemmas.{nat_equal}
use Rattle.gtfs_rows.specs.declared.rows.TransferKind.{TransferKind}
use Rattle.gtfs_rows.specs.declared.rows.TransferKind.TheVariants.{Recommended, Timed, Minimum, Impossible, Skipped}
use Rattle.gtfs_tables.specs.declared.tables.Transfer.{Transfer}
use Rattle.gtfs_tables.specs.declared.tables.TransferEnd.{TransferEnd}
use Rattle.gtfs_tables.specs.declared.tables.TransferEnd.TheVariants.{Stop as TheStop, Station as TheStation}
use Rattle.transfers.specs.declared.bans.Ban.{Ban}
use Rattle.transfers.specs.Lookup.{end_station}
use Rattle.transfers.specs.Bans.{AreBans, HasBans, IsBan, IsVoid, ban_cmp, ban_between, bans_by, bans_in, listed_ban}
use Rattle.transfers.specs.contracts.bans.BanOrd.TheImpl.{cmp-value}
use Rattle.transfers.specs.contracts.bans.BanOrd.TheImpl.Laws.{total-law}

abbrev ban : ℕ → ℕ → Ban
ban from to = record { to = to; from = from }

-- kinds and places that differ
abbrev forbids : TransferKind → ℕ
forbids Recommended = 0
forbids Timed = 0
forbids Minimum = 0
forbids Impossible = 1
forbids Skipped = 0

-- a transfer forbids all between two stations
abbrev IsBanBy : TransferKind → TransferEnd → TransferEnd → ℕ → ℕ → Type 0
IsBanBy kind p q from to = (kind ≡ Impossible) × (p ≡ TheStation from) × (q ≡ TheStation to)

other_kind : (kind : TransferKind) (p q : TransferEnd) (from to : ℕ) → forbids kind ≡ 0 → ¬ IsBanBy kind p q from to
other_kind kind p q from to e h = let one : forbids kind ≡ 1 = ap (λ (k : TransferKind). forbids k) h.0 in omega (arith, e, one)

no_station : (stop station : ℕ) → TheStop stop ≡ TheStation station → ⊥
no_station stop station e = none-some station (ap (λ (p : TransferEnd). end_station p) e)

same_station : (a b : ℕ) → TheStation a ≡ TheStation b → a ≡ b
same_station a b e = same_Some a b (ap (λ (p : TransferEnd). end_station p) e)

-- whether a transfer does
decide_by : (kind : TransferKind) (p q : TransferEnd) (from to : ℕ) → IsBanBy kind p q from to ⊎ ¬ IsBanBy kind p q from to
decide_by Recommended p q from to = inr (other_kind Recommended p q from to refl)
decide_by Timed p q from to = inr (other_kind Timed p q from to refl)
decide_by Minimum p q from to = inr (other_kind Minimum p q from to refl)
decide_by Skipped p q from to = inr (other_kind Skipped p q from to refl)
decide_by Impossible (TheStop a) q from to = inr (λ h. no_station a from h.1)
decide_by Impossible (TheStation a) (TheStop b) from to = inr (λ h. no_station b to h.2)
decide_by Impossible (TheStation a) (TheStation b) from to = elim (cases_eq a from) [
  | inl same_from ↦ elim (cases_eq b to) [
    | inl same_to ↦ inl (refl, ap (λ (n : ℕ). TheStation n) same_from, ap (λ (n : ℕ). TheStation n) same_to)
    | inr differ ↦ inr (λ h. differ (same_station b to h.2))
  ]
  | inr differ ↦ inr (λ h. differ (same_station a from h.1))
]

-- whether one of them does
decide_ban : (rows : List Transfer) (from to : ℕ) → IsBan rows from to ⊎ ¬ IsBan rows from to
decide_ban [] from to = inr (λ h. not_in_nil h.0 h.1)
decide_ban (row ∷ rows) from to = elim (decide_ban rows from to) [
  | inl h ↦ inl (h.0, contains_rest h.0 row rows h.1, h.2, h.3, h.4)
  | inr none ↦ elim (decide_by row.kind row.from row.to from to) [
    | inl is ↦ inl (row, contains_first row rows, is.0, is.1, is.2)
    | inr not_it ↦ inr (λ h. elim (contains_cases h.0 row rows h.1) [
      | inl same ↦ not_it (subst (λ (t : Transfer). IsBanBy t.kind t.from t.to from to) (sym same) (h.2, h.3, h.4))
      | inr rest ↦ none (h.0, rest, h.2, h.3, h.4)
    ])
  ]
]

pub decide_void : (rows : List Transfer) (from to : Option ℕ) → IsVoid rows from to ⊎ ¬ IsVoid rows from to
decide_void rows None to = inr (λ h. h)
decide_void rows (Some from) None = inr (λ h. h)
decide_void rows (Some from) (Some to) = decide_ban rows from to

-- what one transfer forbids is listed
has_by : (kind : TransferKind) (p q : TransferEnd) (b : Ban) → Contains (bans_by kind p q) b → IsBanBy kind p q b.from b.to
has_by Recommended p q b h = absurd (not_in_nil b h)
has_by Timed p q b h = absurd (not_in_nil b h)
has_by Minimum p q b h = absurd (not_in_nil b h)
has_by Skipped p q b h = absurd (not_in_nil b h)
has_by Impossible (TheStop a) q b h = absurd (not_in_nil b h)
has_by Impossible (TheStation a) (TheStop c) b h = absurd (not_in_nil b h)
has_by Impossible (TheStation a) (TheStation c) b h = elim (contains_cases b (ban a c) [] h) [
  | inl same ↦ (refl, ap (λ (x : Ban). TheStation x.from) same, ap (λ (x : Ban). TheStation x.to) same)
  | inr none ↦ absurd (not_in_nil b none)
]

each_by : (kind : TransferKind) (p q : TransferEnd) (b : Ban) → IsBanBy kind p q b.from b.to → Contains (bans_by kind p q) b
each_by kind p q b (k, f, t) =
    subst (λ (x : TransferKind). Contains (bans_by x p q) b) (sym k)
    (subst (λ (x : TransferEnd). Contains (listed_ban (ban_between x q)) b) (sym f)
    (subst (λ (x : TransferEnd). Contains (listed_ban (ban_between (TheStation b.from) x)) b) (sym t) (contains_first b [])))

pub bans_none : (rows : List Transfer) → HasBans (take 0 rows) []
bans_none rows = record { has = λ b h. absurd (not_in_nil b h); each = λ b h. absurd (not_in_nil h.0 h.1) }

contains_both : (xs ys : List Ban) (b : Ban) → Contains (xs ++ ys) b → Contains xs b ⊎ Contains ys b
contains_both [] ys b h = inr h
contains_both (x ∷ xs) ys b h = elim (contains_cases b x (xs ++ ys) h) [
  | inl same ↦ inl (subst (λ (y : Ban). Contains (x ∷ xs) y) same (contains_first x xs))
  | inr rest ↦ elim (contains_both xs ys b rest) [ inl there ↦ inl (contains_rest b x xs there) | inr there ↦ inr there ]
]

contains_rear : (xs ys : List Ban) (b : Ban) → Contains ys b → Contains (xs ++ ys) b
contains_rear [] ys b h = h
contains_rear (x ∷ xs) ys b h = contains_rest b x (xs ++ ys) (contains_rear xs ys b h)

-- one transfer more
pub bans_more : (rows : List Transfer) (i : ℕ) (d : Transfer) (bans : List Ban) → i < length rows → HasBans (take i rows) bans
    → HasBans (take (i + 1) rows) (bans ++ bans_in (get_or rows i d))
bans_more rows i d bans below h =
    let row : Transfer = get_or rows i d in
    let more : take (i + 1) rows ≡ take i rows ++ row ∷ [] = take_more rows i d below in
    subst (λ (ts : List Transfer). HasBans ts (bans ++ bans_in row)) (sym more) (record {
      has = λ b is_in. elim (contains_both bans (bans_in row) b is_in) [
        | inl was ↦ let is : IsBan (take i rows) b.from b.to = h.has b was in
            (is.0, Contains-append_left (take i rows) (row ∷ []) is.0 is.1, is.2, is.3, is.4)
        | inr new ↦ let is : IsBanBy row.kind row.from row.to b.from b.to = has_by row.kind row.from row.to b new in
            (row, Contains-push (take i rows) row, is.0, is.1, is.2)
      ];
      each = λ b is. elim (Contains-push_cases (take i rows) row is.0 is.1) [
        | inl was ↦ Contains-append_left bans (bans_in row) b (h.each b (is.0, was, is.2, is.3, is.4))
        | inr same ↦ contains_rear bans (bans_in row) b (each_by row.kind row.from row.to b
            (subst (λ (t : Transfer). IsBanBy t.kind t.from t.to b.from b.to) (sym same) (is.2, is.3, is.4)))
      ];
    })

pub bans_end : (rows : List Transfer) (i : ℕ) (bans : List Ban) → i ≡ length rows → HasBans (take i rows) bans → HasBans rows bans
bans_end rows i bans all h = subst (λ (ts : List Transfer). HasBans ts bans) (take_all i rows (omega (arith, all))) h

-- in order they are the same
cmp_is : (a b : Ban) → cmp-value.it a b ≡ ban_cmp a b
cmp_is a b = refl

pub bans_sorted : (rows : List Transfer) (made bans : List Ban) → HasBans rows made → IsPermutation made bans → IsSorted cmp-value.it bans → AreBans rows bans
bans_sorted rows made bans h moved sorted = record {
  all = record {
    has = λ b is_in. h.has b (Contains-permutation bans made b (IsPermutation-sym made bans moved) is_in);
    each = λ b is. Contains-permutation made bans b moved (h.each b is);
  };
  sorted = sorted;
}

less_equal : Less ≡ Equal → ⊥
less_equal e = true≢false (ap (λ (o : Ordering). is_lt o) e)

greater_equal : Greater ≡ Equal → ⊥
greater_equal e = true≢false (ap (λ (o : Ordering). is_gt o) e)

then_equal : (o p : Ordering) → ordering_then o p ≡ Equal → (o ≡ Equal) × (p ≡ Equal)
then_equal Less p e = absurd (less_equal e)
then_equal Equal p e = (refl, e)
then_equal Greater p e = absurd (greater_equal e)

numbers_equal : (m n : ℕ) → nat_cmp m n ≡ Equal → m ≡ n
numbers_equal m n e = grind (arith, nat_tests)

own_rank : (b : Ban) → ban_cmp b b ≡ Equal
own_rank b = ap (λ (o : Ordering). ordering_then o (nat_cmp b.from b.from)) (nat_equal b.to b.to refl) ∙ nat_equal b.from b.from refl

-- a search finds what is forbidden
pub found_ban : (rows : List Transfer) (bans : List Ban) (from to i : ℕ) → AreBans rows bans → i < length bans
    → ((d : Ban) → cmp-value.it (get_or bans i d) (ban from to) ≡ Equal) → IsBan rows from to
found_ban rows bans from to i h below at =
    let b : Ban = get_or bans i (ban from to) in
    let same = then_equal (nat_cmp b.to to) (nat_cmp b.from from) (at (ban from to)) in
    let e_to : b.to ≡ to = numbers_equal b.to to same.0 in
    let e_from : b.from ≡ from = numbers_equal b.from from same.1 in
    subst (λ (n : ℕ). IsBan rows n to) e_from (subst (λ (n : ℕ). IsBan rows b.from n) e_to (h.all.has b (Contains-get_or bans i (ban from to) below)))

pub no_ban : (rows : List Transfer) (bans : List Ban) (from to i : ℕ) → AreBans rows bans
    → IsBinarySearchResult (λ y. cmp-value.it y (ban from to)) bans (Err i) → ¬ IsBan rows from to
no_ban rows bans from to i h search is =
    let x : Ban = ban from to in
    let parts = search (searchable_from_sorted total-law (λ (y : Ban). y) bans x h.sorted) in
    let (k, inside, here) = h.all.each x is in
    let itself : ban_cmp (get_or bans k x) x ≡ Equal = subst (λ (y : Ban). ban_cmp y x ≡ Equal) (sym here) (own_rank x) in
    elim (cases_lt k i) [
      | inl below ↦ less_equal (sym (parts.0 k x (omega arith) below) ∙ itself)
      | inr above ↦ greater_equal (sym (parts.1 k x above inside) ∙ itself)
    ]

-- what a search says
pub ban_yes : (rows : List Transfer) (bans : List Ban) (from to : ℕ) (r : Result ℕ ℕ) → AreBans rows bans → IsSearchInRange r (length bans)
    → IsBinarySearchResult (λ y. cmp-value.it y (ban from to)) bans r → is_ok r ≡ true → IsBan rows from to
ban_yes rows bans from to (Ok i) are bound at found = found_ban rows bans from to i are bound at
ban_yes rows bans from to (Err i) are bound search found = absurd (false≢true found)

pub ban_unless : (rows : List Transfer) (bans : List Ban) (from to : ℕ) (r : Result ℕ ℕ) → AreBans rows bans
    → IsBinarySearchResult (λ y. cmp-value.it y (ban from to)) bans r → is_ok r ≡ false → ¬ IsBan rows from to
ban_unless rows bans from to (Ok i) are at no_ = absurd (true≢false no_)
ban_unless rows bans from to (Err i) are search no_ = no_ban rows bans from to i are search
