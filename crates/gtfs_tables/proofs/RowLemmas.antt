-- The rows of the tables, one row at a time.
use Rattle.std.proofs.Common.{◌≡◌, ℕ, ap, subst, ◌+◌, ◌-◌, ◌<◌, List, [], ◌∷◌, ◌++◌, length, get_or, get_or-set_other}
use Rattle.std.proofs.Common.{map, set, take, Bool, true, false, eqb, ◌||◌, Option, Some, None, refl, ◌∙◌, sym, arith, inl, inr, ◌⊎◌}
use Rattle.std.specs.Prelude.{filter, is_none, is_some, option_to_list, IfSome}
use Rattle.std.specs.List.{AllZip}
use Rattle.std.specs.String.{string_bytes}
use Rattle.std.proofs.lemmas.Bool.{cases_eq, cases_lt, eq-eqb, ne_eqb, or_right}
use Rattle.std.proofs.lemmas.Grind.{get_or-set_at}
use Rattle.std.proofs.lemmas.List.Folds.{list_any_more}
use Rattle.std.proofs.lemmas.List.{append-nil, append_assoc, get_or_at, get_or_past, length-append, map_more}
use Rattle.std.proofs.lemmas.List.Elements.{filter_more}
use Rattle.std.proofs.Math.Bool.{or-false}
use Rattle.reasoning.proofs.ListLemmas.{all_zip-push}
use Rattle.gtfs_rows.specs.declared.rows.FrequencyRow.{FrequencyRow}
use Rattle.gtfs_rows.specs.declared.rows.StopTimeRow.{StopTimeRow}
use Rattle.gtfs_rows.specs.declared.rows.TransferRow.{TransferRow}
use Rattle.gtfs_tables.specs.Order.{no_row, numbers_from, row_of}
use Rattle.gtfs_tables.specs.Rows.{IsTransferOf, ends_fault, is_flex_id, is_kept, is_place, is_repeated, lack_stops, linked_fault, linked_row}
use Rattle.gtfs_tables.specs.Rows.{transfer_fault}
use Rattle.gtfs_tables.specs.declared.names.StopIdTarget.{StopIdTarget}
use Rattle.gtfs_tables.specs.declared.order.SortKey.{SortKey}
use Rattle.gtfs_tables.specs.declared.tables.Transfer.{Transfer}

-- a row that isn't skipped is judged by its ends
pub transfer_judged : (named : List ℕ → Option StopIdTarget) (row : TransferRow) (from to : Option StopIdTarget) → is_kept row ≡ true
    → named (string_bytes row.from) ≡ from → named (string_bytes row.to) ≡ to → transfer_fault named row ≡ ends_fault from to
transfer_judged named row from to kept e f = rw (kept, e, f) refl

-- the marks of the trips that rows of frequencies.txt name, a row on
pub marked_more : (named : List ℕ → Option ℕ) (rows : List FrequencyRow) (i u n : ℕ) (row : FrequencyRow) (old : List Bool) → i < length rows → row
    ≡ get_or rows i row
    → named (string_bytes row.trip) ≡ Some u → length old ≡ n
    → ((t : ℕ) → t < n → get_or old t false ≡ is_repeated named (take i rows) t)
    → (t : ℕ) → t < n → get_or (set old u true) t false ≡ is_repeated named (take (i + 1) rows) t
marked_more named rows i u n row old lt e names len before t within = by (cases_eq t u)
  where
    more : is_repeated named (take (i + 1) rows) t ≡ (is_repeated named (take i rows) t || is_place (Some u) t)
    more = list_any_more (λ r. is_place (named (string_bytes r.trip)) t) rows i row lt ∙ rw (sym e, names) refl

    here : get_or old t false ≡ is_repeated named (take i rows) t
    here = before t within

    by : (t ≡ u) ⊎ (t ≡ u → ⊥) → get_or (set old u true) t false ≡ is_repeated named (take (i + 1) rows) t
    by (inl same) =
        let set_here : get_or (set old u true) t false ≡ true = get_or-set_at old u t true false same (omega (arith, same, len)) in
        set_here ∙ sym (more ∙ or_right (is_repeated named (take i rows) t) (eqb u t) (eq-eqb u t (sym same)))
    by (inr other) =
        let set_else : get_or (set old u true) t false ≡ get_or old t false = get_or-set_other old u t true false other in
        let differs : eqb u t ≡ false = ne_eqb u t (λ s. other (sym s)) in
        set_else ∙ here ∙ sym (more ∙ rw differs (or-false (is_repeated named (take i rows) t)))

-- what is said of a row by its mark is said of what the mark stands for: where no mark was made its trip isn't known
by_mark : {X : Type 0} (shown : Bool → X) (trips : List (Option ℕ)) (rows : List StopTimeRow) (flex : List Bool) (id : ℕ)
    → ((id : ℕ) → id < length trips → get_or flex id false ≡ is_flex_id rows id)
    → (get_or trips id None ≡ None → shown (get_or flex id false) ≡ shown (is_flex_id rows id))
    → shown (get_or flex id false) ≡ shown (is_flex_id rows id)
by_mark shown trips rows flex id same unknown = elim (cases_lt id (length trips)) [
  | inl lt ↦ ap shown (same id lt)
  | inr le ↦ unknown (get_or_past trips id None le)
]

-- if each row has a stop, no trip_id has a row without one
neither : (a b : Bool) → (a || b) ≡ false → (a ≡ false) × (b ≡ false)
neither true b none = cc
neither false b none = (refl, none)

pub no_flex : (rows : List StopTimeRow) (id : ℕ) → lack_stops rows ≡ false → is_flex_id rows id ≡ false
no_flex [] id none = refl
no_flex (row ∷ rows) id none =
    let both = neither (is_none row.stop) (lack_stops rows) none in
    rw (both.0, no_flex rows id both.1) refl

-- a trip that isn't known is a fault, and gives no stop, flex or not
pub fault_same : (trips : List (Option ℕ)) (stops : List (Option StopIdTarget)) (rows : List StopTimeRow) (flex : List Bool) (row : StopTimeRow)
    → ((id : ℕ) → id < length trips → get_or flex id false ≡ is_flex_id rows id)
    → linked_fault trips stops (get_or flex row.trip false) row ≡ linked_fault trips stops (is_flex_id rows row.trip) row
fault_same trips stops rows flex row same = by_mark (λ mark. linked_fault trips stops mark row) trips rows flex row.trip same (λ none. rw none refl)

pub row_same : (trips : List (Option ℕ)) (stops : List (Option StopIdTarget)) (rows : List StopTimeRow) (flex : List Bool) (row : StopTimeRow)
    → ((id : ℕ) → id < length trips → get_or flex id false ≡ is_flex_id rows id)
    → linked_row trips stops (get_or flex row.trip false) row ≡ linked_row trips stops (is_flex_id rows row.trip) row
row_same trips stops rows flex row same = by_mark (λ mark. linked_row trips stops mark row) trips rows flex row.trip same (λ none. rw none refl)

pub kept_more : (named : List ℕ → Option StopIdTarget) (rows : List TransferRow) (i : ℕ) (row : TransferRow) (kept : List Transfer) (found : Transfer)
    → i < length rows → row ≡ get_or rows i row
    → true ≡ is_kept row → IsTransferOf named row found → AllZip (IsTransferOf named) (filter is_kept (take i rows)) kept
    → AllZip (IsTransferOf named) (filter is_kept (take (i + 1) rows)) (kept ++ found ∷ [])
kept_more named rows i row kept found lt e counted is before =
    let more : filter is_kept (take (i + 1) rows) ≡ filter is_kept (take i rows) ++ row ∷ [] = filter_more is_kept rows i row lt
    ∙ rw (sym e, sym counted) refl in
    rw more (all_zip-push (IsTransferOf named) (filter is_kept (take i rows)) kept row found before is)

pub kept_same : (named : List ℕ → Option StopIdTarget) (rows : List TransferRow) (i : ℕ) (row : TransferRow) (kept : List Transfer) → i < length rows → row
    ≡ get_or rows i row
    → false ≡ is_kept row → AllZip (IsTransferOf named) (filter is_kept (take i rows)) kept
    → AllZip (IsTransferOf named) (filter is_kept (take (i + 1) rows)) kept
kept_same named rows i row kept lt e skipped before =
    let same : filter is_kept (take (i + 1) rows) ≡ filter is_kept (take i rows) = filter_more is_kept rows i row lt
    ∙ rw (sym e, sym skipped) (append-nil (filter is_kept (take i rows))) in
    rw same before

-- what a function gives of a list, an element on
pub mapped_more : {A B : Type 0} (f : A → B) (xs : List A) (i : ℕ) (d : A) (ys : List B) (y : B) → i < length xs → ys ≡ map f (take i xs) → y
    ≡ f (get_or xs i d)
    → ys ++ y ∷ [] ≡ map f (take (i + 1) xs)
mapped_more f xs i d ys y lt e here = rw (e, here) (sym (map_more f xs i d lt))

abbrev pub no_sort_key : SortKey
no_sort_key = record { trip = 0; sequence = 0; number = 0 }

-- where the sort keys are those of the records as they are filed, what is made of each sort key's row is what is made of each row
read_behind : (before rows : List StopTimeRow) (row : StopTimeRow) → row_of (before ++ row ∷ rows) (length before + 1) ≡ row
read_behind before rows row =
    let behind : length before + 1 - 1 ≡ length before = omega arith in
    ap (λ (k : ℕ). get_or (before ++ row ∷ rows) k no_row) behind ∙ get_or_at before row rows no_row (length before) refl

filed : {A : Type 0} (f : StopTimeRow → A) (before rows : List StopTimeRow) (sort_keys : List SortKey)
    → map (λ sort_key. sort_key.number) sort_keys ≡ numbers_from (length before + 1) (length rows)
    → map (λ sort_key. f (row_of (before ++ rows) sort_key.number)) sort_keys
    ≡ map f rows
filed f before [] [] e = refl
filed f before [] (sort_key ∷ sort_keys) e = cc
filed f before (row ∷ rows) [] e = cc
filed f before (row ∷ rows) (sort_key ∷ sort_keys) e =
    let number : sort_key.number ≡ length before + 1 = cc in
    let rest : map (λ sort_key. sort_key.number) sort_keys ≡ numbers_from (length before + 1 + 1) (length rows) = cc in
    let longer : length (before ++ row ∷ []) ≡ length before + 1 = length-append before (row ∷ []) in
    let again : before ++ row ∷ [] ++ rows ≡ before ++ row ∷ rows = append_assoc before (row ∷ []) rows in
    let here : f (row_of (before ++ row ∷ rows) sort_key.number) ≡ f row = ap f (ap (row_of (before ++ row ∷ rows)) number ∙ read_behind before rows row) in
    let others : map (λ sort_key. f (row_of (before ++ row ∷ [] ++ rows) sort_key.number)) sort_keys ≡ map f rows =
    filed f (before ++ row ∷ []) rows sort_keys (rest ∙ ap (λ n. numbers_from (n + 1) (length rows)) (sym longer)) in
    let same : map (λ sort_key. f (row_of (before ++ row ∷ rows) sort_key.number)) sort_keys ≡ map f rows =
    subst (λ (all : List StopTimeRow). map (λ sort_key. f (row_of all sort_key.number)) sort_keys ≡ map f rows) again others in
    ap (λ x. x ∷ map (λ sort_key. f (row_of (before ++ row ∷ rows) sort_key.number)) sort_keys) here ∙ ap (λ xs. f row ∷ xs) same

pub filed_rows : {A : Type 0} (f : StopTimeRow → A) (rows : List StopTimeRow) (sort_keys : List SortKey) → length sort_keys ≡ length rows
    → map (λ sort_key. sort_key.number) sort_keys ≡ numbers_from 1 (length sort_keys) → map (λ sort_key. f (row_of rows sort_key.number)) sort_keys ≡ map f rows
filed_rows f rows sort_keys len e = filed f [] rows sort_keys (e ∙ ap (numbers_from 1) len)

pub kept_next : (named : List ℕ → Option StopIdTarget) (rows : List TransferRow) (i : ℕ) (row : TransferRow) (kept new : List Transfer)
    (found : Option Transfer)
    → i < length rows → row ≡ get_or rows i row
    → is_some found ≡ is_kept row → IfSome found (IsTransferOf named row) → new ≡ kept ++ option_to_list found
    → AllZip (IsTransferOf named) (filter is_kept (take i rows)) kept
    → AllZip (IsTransferOf named) (filter is_kept (take (i + 1) rows)) new
kept_next named rows i row kept new None lt e counted is made before = rw (made, append-nil kept) (kept_same named rows i row kept lt e counted before)
kept_next named rows i row kept new (Some found) lt e counted is made before = rw made (kept_more named rows i row kept found lt e counted is before)
