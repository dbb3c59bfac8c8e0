-- What an id names, one row of a station at a time.
use Rattle.std.proofs.Common.{◌≡◌, ◌∙◌, ◌+◌, ◌<◌, ℕ, List, [], ◌∷◌, ◌++◌, Option, None, Some, length, get_or}
use Rattle.std.proofs.Common.{true, false, refl, sym, ap, arith}
use Rattle.std.specs.Prelude.{if◌then◌else◌, option_and_then}
use Rattle.std.specs.List.{slice_get}
use Rattle.std.specs.Option.{option_or}
use Rattle.std.specs.Str.{bytes_eq}
use Rattle.std.specs.String.{string_bytes}
use Rattle.gtfs_rows.specs.Faults.{fault_unless}
use Rattle.gtfs_rows.specs.Tables.{is_blank, is_stop}
use Rattle.gtfs_rows.specs.declared.fault.FaultKind.{FaultKind}
use Rattle.gtfs_rows.specs.declared.fault.FaultKind.TheVariants.{UnknownId}
use Rattle.gtfs_tables.specs.Rows.{has_parent}
use Rattle.std.proofs.lemmas.List.{get_or_append_left, get_or_push, length-append}
use Rattle.std.proofs.lemmas.Option.{slice_get_read}
use borrow.Author.Count.{below_more}
use Rattle.reasoning.proofs.FirstLemmas.{first_below-next}
use Rattle.gtfs_rows.specs.declared.rows.StopRow.{StopRow}
use Rattle.gtfs_tables.specs.First.{first_below}
use Rattle.feed_stations.specs.Homes.{AreHomesBelow, home_at, home_of, is_station, orphan_fault, station_with}

-- the row of a station may be the first with its id
pub station-more : (rows : List StopRow) (k : ℕ) (row : StopRow) (id : List ℕ) → k < length rows → row ≡ get_or rows k row → is_station row ≡ true
    → first_below (station_with rows id) (k + 1)
    ≡ option_or (first_below (station_with rows id) k) (if bytes_eq id (string_bytes row.id) then Some k else None)
station-more rows k row id lt e is =
    let found : slice_get rows k ≡ Some row = slice_get_read rows (length rows) k row refl lt e in
    rw (first_below-next (station_with rows id) k, found, is) refl

-- another row isn't
pub other-more : (rows : List StopRow) (k : ℕ) (row : StopRow) (id : List ℕ) → k < length rows → row ≡ get_or rows k row → is_station row ≡ false
    → first_below (station_with rows id) (k + 1) ≡ first_below (station_with rows id) k
other-more rows k row id lt e is =
    let found : slice_get rows k ≡ Some row = slice_get_read rows (length rows) k row refl lt e in
    rw (first_below-next (station_with rows id) k, found, is) (nothing (first_below (station_with rows id) k))
  where
    nothing : {X : Type 0} (o : Option X) → option_or o None ≡ o
    nothing None = refl
    nothing (Some x) = refl

-- no row has a home yet
pub homes_none : (named : List ℕ → Option ℕ) (rows : List StopRow) (homes : List (Option ℕ)) → homes ≡ [] → AreHomesBelow named rows 0 homes
homes_none named rows homes none = (ap length none, λ k lt. absurd (omega (arith, lt)))

-- the home of the next row
pub homes_more : (named : List ℕ → Option ℕ) (rows : List StopRow) (n : ℕ) (row : StopRow) (homes new : List (Option ℕ)) (home : Option ℕ)
    → n < length rows → row ≡ get_or rows n row → new ≡ homes ++ home ∷ [] → home ≡ home_of named n row
    → AreHomesBelow named rows n homes → AreHomesBelow named rows (n + 1) new
homes_more named rows n row homes new home lt e grown is (long, each) =
    let found : slice_get rows n ≡ Some row = slice_get_read rows (length rows) n row refl lt e in (
      ap length grown ∙ length-append homes (home ∷ []) ∙ ap (λ k. k + 1) long,
      below_more (λ k. get_or new k None ≡ home_at named rows k) n
          (λ k low. ap (λ xs. get_or xs k None) grown ∙ get_or_append_left homes (home ∷ []) None k (omega (arith, long, low)) ∙ each k low)
          (ap (λ xs. get_or xs n None) grown ∙ get_or_push homes home None n long ∙ is ∙ sym (ap (option_and_then (home_of named n)) found)),
    )

-- what is wrong with a row, as a function that gives the same names tells it
pub orphan_as_found : (named other : List ℕ → Option ℕ) → ((id : List ℕ) → named id ≡ other id) → (row : StopRow) (fault : Option FaultKind)
    → orphan_fault named row ≡ fault → orphan_fault other row ≡ fault
orphan_as_found named other same row fault found_so =
    ap (λ (o : Option ℕ). if has_parent row then fault_unless o UnknownId else None) (sym (same (string_bytes row.parent))) ∙ found_so

-- and the home of a row
pub home_as_found : (named other : List ℕ → Option ℕ) → ((id : List ℕ) → named id ≡ other id) → (k : ℕ) (row : StopRow) (home : Option ℕ)
    → home ≡ home_of named k row → home ≡ home_of other k row
home_as_found named other same k row home found_so =
    found_so ∙ ap (λ (o : Option ℕ). if is_stop row then (if is_blank (string_bytes row.parent) then Some k else o) else None) (same (string_bytes row.parent))
