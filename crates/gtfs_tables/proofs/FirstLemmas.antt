-- The first index that passes, one step at a time and at the end.
use Rattle.std.proofs.Common.{◌≡◌, ℕ, zero, suc, ◌+◌, ◌<◌, Option, Some, None, List, [], ◌∷◌, ◌++◌, length, get_or, refl, ap, ◌∙◌, add-one}
use Rattle.std.specs.Prelude.{option_map}
use Rattle.std.specs.List.{slice_get}
use Rattle.std.specs.Option.{option_or, option_to_list}
use Rattle.std.proofs.lemmas.List.{get_or_default}
use Rattle.std.proofs.lemmas.Option.{slice_get_read}
use Rattle.reasoning.proofs.FirstLemmas.{first_below-more, first_below-found, first_below-start}
use Rattle.gtfs_rows.specs.declared.fault.FaultKind.{FaultKind}
use Rattle.gtfs_rows.specs.declared.fault.Table.{Table}
use Rattle.gtfs_tables.specs.First.{all_below, fault_at, first_below, row_fault}

pub ruleset searches = (first_below-start, first_below-more, first_below-found)

-- the judgement of the row at an index
pub row_fault-at : {R : Type 0} (table : Table) (judge : R → Option FaultKind) (rows : List R) (i : ℕ) (row : R) → i < length rows → row ≡ get_or rows i row
    → row_fault table judge rows i ≡ option_map (fault_at table i) (judge row)
row_fault-at table judge rows i row lt e =
    let found : slice_get rows i ≡ Some row = slice_get_read rows (length rows) i row refl lt e in
    rw found refl

-- a row without a fault, and one with a fault, behind rows that have none
pub row_fine : {R : Type 0} (table : Table) (judge : R → Option FaultKind) (rows : List R) (i : ℕ) (row : R) → i < length rows → row ≡ get_or rows i row
    → judge row ≡ None → first_below (row_fault table judge rows) i ≡ None → first_below (row_fault table judge rows) (i + 1) ≡ None
row_fine table judge rows i row lt e fine before =
    first_below-more (row_fault table judge rows) i before (row_fault-at table judge rows i row lt e ∙ ap (option_map (fault_at table i)) fine)

pub row_wrong : {R : Type 0} (table : Table) (judge : R
    → Option FaultKind) (rows : List R) (i : ℕ) (row : R) (kind : FaultKind) → i < length rows → row ≡ get_or rows i row
    → judge row ≡ Some kind → first_below (row_fault table judge rows) i ≡ None
    → first_below (row_fault table judge rows) (length rows) ≡ Some (fault_at table i kind)
row_wrong table judge rows i row kind lt e wrong before =
    first_below-found (row_fault table judge rows) (length rows) i (fault_at table i kind) lt before
    (row_fault-at table judge rows i row lt e ∙ ap (option_map (fault_at table i)) wrong)

-- the same for rows that are copied
pub copy_fine : {R : Type 0} (table : Table) (judge : R → Option FaultKind) (rows : List R) (i : ℕ) (d : R) → i < length rows
    → judge (get_or rows i d) ≡ None → first_below (row_fault table judge rows) i ≡ None → first_below (row_fault table judge rows) (i + 1) ≡ None
copy_fine table judge rows i d lt fine before = row_fine table judge rows i (get_or rows i d) lt (get_or_default rows i d (get_or rows i d) lt) fine before

pub copy_wrong : {R : Type 0} (table : Table) (judge : R → Option FaultKind) (rows : List R) (i : ℕ) (d : R) (kind : FaultKind) → i < length rows
    → judge (get_or rows i d) ≡ Some kind → first_below (row_fault table judge rows) i ≡ None
    → first_below (row_fault table judge rows) (length rows) ≡ Some (fault_at table i kind)
copy_wrong table judge rows i d kind lt wrong before =
    row_wrong table judge rows i (get_or rows i d) kind lt (get_or_default rows i d (get_or rows i d) lt) wrong before

-- all values, one index at a time
pub all_below-start : {X : Type 0} (f : ℕ → Option X) → all_below f 0 ≡ []
unfolding all_below
all_below-start f = refl

pub all_below-more : {X : Type 0} (f : ℕ → Option X) (n : ℕ) (found : List X) (value : Option X) → found ≡ all_below f n → f n ≡ value
    → found ++ option_to_list value ≡ all_below f (n + 1)
unfolding all_below
all_below-more f n found value held here = rw (held, ← here, add-one) refl

-- the first of all values is the value at the first index that has one
pub first_of_all : {X : Type 0} (f : ℕ → Option X) (n : ℕ) → slice_get (all_below f n) 0 ≡ first_below f n
unfolding all_below first_below
first_of_all f zero = refl
first_of_all {X = X} f (suc n) = by (all_below f n) (f n) ∙ ap (λ first. option_or first (f n)) (first_of_all f n)
  where
    by : (xs : List X) (o : Option X) → slice_get (xs ++ option_to_list o) 0 ≡ option_or (slice_get xs 0) o
    by [] None = refl
    by [] (Some x) = refl
    by (x ∷ xs) o = refl
