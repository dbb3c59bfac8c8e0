-- Facts on cells and columns; and the records of a file that is UTF-8 are text.
use Rattle.std.proofs.Common.{◌≡◌, ◌<◌, ◌≤◌, ◌+◌, ◌==◌, ◌∷◌, ◌++◌, ℕ, zero, suc, List, [], length, drop, get_or, reverse, map, take, Option, Some, None, Bool}
use Rattle.std.proofs.Common.{true, false, refl, ap, arith, append_assoc, if◌then◌else◌, length-append, append-nil, slice_index_or, unwrap_or, take_all, Bor}
use Rattle.std.specs.Str.{IsUtf8, is_utf8}
use Rattle.std.specs.Prelude.{⊤}
use Rattle.std.proofs.Math.Seq.{drop-append_seam, take-append_seam}
use Rattle.std.proofs.Math.Utf8.{encode}
use Rattle.std.proofs.lemmas.List.{reverse-reverse}
use Rattle.std.proofs.lemmas.Str.{IsCharBoundary-after_ascii, IsCharBoundary-before_ascii, IsUtf8-append, IsUtf8-drop, IsUtf8-from_is_utf8, IsUtf8-nil}
use Rattle.std.proofs.lemmas.Str.{IsUtf8-past_char, IsUtf8-take, is_utf8-from_IsUtf8}
use Rattle.std.proofs.lemmas.Bool.{false_from_ne_true}
use Rattle.std.proofs.lemmas.Bool.Decides.{nat_tests}
use Rattle.std.proofs.lemmas.Grind.{common_steps}
use mathlib.Core.List.{reverse-cons}
use Rattle.csv.specs.Machine.{Read, ends_at_end, next_record, step}
use Rattle.csv.specs.Reading.{default_config, is_bom, records_from, records_next, strip_bom}
use Rattle.csv.specs.Records.{AllText, field_at}
use Rattle.csv.specs.declared.parser.Action.{Action}
use Rattle.csv.specs.declared.parser.Action.TheVariants as act
use Rattle.csv.specs.declared.parser.State.{State}
use Rattle.csv.specs.declared.parser.State.TheVariants as st
use Rattle.csv.proofs.RecordFacts.{text-more}
use Rattle.gtfs_rows.specs.Source.{AllRecordsText, Record, table_records}
use Rattle.gtfs_rows.specs.Tables.{value}
use Rattle.gtfs_rows.specs.Cells.{ColumnIndices, cell, column, indices_of, trim_front, trim_spaces}

-- a text is cut at a byte of ASCII
cut : (front rest : List ℕ) (c : ℕ) → c < 128 → IsUtf8 (front ++ c ∷ rest) → IsUtf8 front × IsUtf8 rest
cut front rest c low text =
    let tail : drop (length front) (front ++ c ∷ rest) ≡ c ∷ rest = drop-append_seam front (c ∷ rest) in
    let within : length front < length (front ++ c ∷ rest) = omega (arith, length-append front (c ∷ rest)) in
    let less : get_or (front ++ c ∷ rest) (length front) 0 < 128 = grind (arith, common_steps) in
    let seam = IsCharBoundary-before_ascii (front ++ c ∷ rest) (length front) within less in
    let from = rw tail at (IsUtf8-drop (front ++ c ∷ rest) (length front) text seam) in (
      rw take-append_seam at (IsUtf8-take (front ++ c ∷ rest) (length front) text seam),
      IsUtf8-drop (c ∷ rest) (0 + 1) from (IsCharBoundary-after_ascii (c ∷ rest) 0 from (omega arith) low),
    )

-- a text of either of two is text
text_if : (e : Bool) (f : List ℕ → List ℕ) (x y : List ℕ) → (e ≡ true → IsUtf8 (f x)) → (e ≡ false → IsUtf8 (f y)) → IsUtf8 (f (if e then x else y))
text_if true f x y one other = one refl
text_if false f x y one other = other refl

-- a text with no space at its start, or at its end, is text
front_text : (bs : List ℕ) → IsUtf8 bs → IsUtf8 (trim_front bs)
front_text [] h = h
front_text (b ∷ rest) h = text_if (b == 32) (λ bs. bs) (trim_front rest) (b ∷ rest)
    (λ is. let low : b < 128 = grind (arith, nat_tests) in front_text rest (cut [] rest b low h).1) (λ other. h)

back_text : (bs : List ℕ) → IsUtf8 (reverse bs) → IsUtf8 (reverse (trim_front bs))
back_text [] h = h
back_text (b ∷ rest) h = text_if (b == 32) reverse (trim_front rest) (b ∷ rest)
    (λ is. let low : b < 128 = grind (arith, nat_tests) in back_text rest (cut (reverse rest) [] b low (rw reverse-cons at h)).0) (λ other. h)

trim_text : (bs : List ℕ) → IsUtf8 bs → IsUtf8 (trim_spaces bs)
trim_text bs h = back_text (reverse (trim_front bs)) (rw reverse-reverse (front_text bs h))

-- a field of a record of text is text
field_text : (r : Record) (i : ℕ) → AllText r → IsUtf8 (unwrap_or (field_at r i) [])
unfolding AllText field_at
field_text [] i h = IsUtf8-nil
field_text (f ∷ rest) zero h = h.0
field_text (f ∷ rest) (suc i) h = field_text rest i h.1

-- a record of text has text in each cell
pub cell_text : (index : Option ℕ) (r : Record) → AllText r → IsUtf8 (cell index r)
cell_text None r h = IsUtf8-nil
cell_text (Some i) r h = trim_text (unwrap_or (field_at r i) []) (field_text r i h)

pub value_text : (indices : ColumnIndices) (k : ℕ) (r : Record) → AllText r → IsUtf8 (value indices k r)
value_text indices k r h = cell_text (slice_index_or indices k None) r h

-- the columns of lent names, once all were looked for
pub indices_taken : (names : List (Bor (List ℕ))) (n : ℕ) (header : Record) → length names ≤ n
    → map (λ name. column name.now header) (take n names) ≡ indices_of (map (λ name. name.now) names) header
indices_taken names n header all = rw take_all (indices_names names)
  where
    indices_names : (names : List (Bor (List ℕ))) → map (λ name. column name.now header) names ≡ indices_of (map (λ name. name.now) names) header
    indices_names [] = refl
    indices_names (n ∷ names) = ap (λ indices. column n.now header ∷ indices) (indices_names names)

-- the test of a text
pub is_text : (bytes : List ℕ) → (IsUtf8 bytes → is_utf8 bytes ≡ true) × (¬ (IsUtf8 bytes) → is_utf8 bytes ≡ false)
is_text bytes = (is_utf8-from_IsUtf8 bytes, λ none. false_from_ne_true (is_utf8 bytes) (λ e. none (IsUtf8-from_is_utf8 bytes e)))

-- the state isn't in a comment: the files of a feed have none
abbrev pub IsOutside : State → Type 0
IsOutside st.InComment = ⊥
IsOutside _ = ⊤

-- the state after a byte isn't in a comment, and a byte that isn't copied is one of ASCII
abbrev pub Moves : State × Action → ℕ → Type 0
Moves (t, act.Copy) c = IsOutside t
Moves (t, _) c = IsOutside t × (c < 128)

moves : (s : State) (c : ℕ) → IsOutside s → Moves (step default_config s c) c
moves st.StartRecord c out = grind (arith, nat_tests)
moves st.StartField c out = grind (arith, nat_tests)
moves st.InField c out = grind (arith, nat_tests)
moves st.InQuoted c out = grind (arith, nat_tests)
moves st.AfterQuote c out = grind (arith, nat_tests)
moves st.AfterCr c out = grind (arith, nat_tests)
moves st.InEscape c out = tt
moves st.InComment c out = absurd out

-- the next record of a text, and what is left of it, are text
next_text : (xs : List ℕ) (s : State) (fields : List (List ℕ)) (field : List ℕ) (p : Read) → IsOutside s → AllText fields → IsUtf8 (field ++ xs)
    → next_record default_config s fields field xs ≡ Some p → AllText p.0 × IsUtf8 p.2 × IsOutside p.1
unfolding next_record
next_text [] s fields field p out ft u e = by (ends_at_end s) refl
  where
    by : (b : Bool) → ends_at_end s ≡ b → AllText p.0 × IsUtf8 p.2 × IsOutside p.1
    by true n =
        let q : Some (fields ++ (field ∷ []), st.StartRecord, []) ≡ Some p = rw n at e in
        let r : (fields ++ (field ∷ []), st.StartRecord, []) ≡ p = cc in
        rw (← r) (text-more fields field ft (rw append-nil at u), IsUtf8-nil, tt)
    by false n = let q : None ≡ Some p = rw n at e in cc
next_text (c ∷ xs) s fields field p out ft u e =
    by (step default_config s c) refl (moves s c out) (next_text xs)
  where
    by : (q : State × Action) → step default_config s c ≡ q → Moves q c
        → ((t : State) (f : List (List ℕ)) (g : List ℕ) (p : Read) → IsOutside t → AllText f → IsUtf8 (g ++ xs)
        → next_record default_config t f g xs ≡ Some p → AllText p.0 × IsUtf8 p.2 × IsOutside p.1)
        → AllText p.0 × IsUtf8 p.2 × IsOutside p.1
    by (t, act.Copy) is m go = go t fields (field ++ c ∷ []) p m ft (rw append_assoc u) (rw is at e)
    by (t, act.Skip) is m go =
        let parts = cut field xs c m.1 u in
        go t fields field p m.0 ft (IsUtf8-append field xs parts.0 parts.1) (rw is at e)
    by (t, act.EndField) is m go =
        let parts = cut field xs c m.1 u in
        go t (fields ++ field ∷ []) [] p m.0 (text-more fields field ft parts.0) parts.1 (rw is at e)
    by (t, act.EndRecord) is m go =
        let parts = cut field xs c m.1 u in
        let q : Some (fields ++ (field ∷ []), t, xs) ≡ Some p = rw is at e in
        let r : (fields ++ (field ∷ []), t, xs) ≡ p = cc in
        rw (← r) (text-more fields field ft parts.0, parts.1, m.0)

rows_text : (n : ℕ) (s : State) (xs : List ℕ) → IsOutside s → IsUtf8 xs → AllRecordsText (records_from default_config n s xs)
unfolding records_from AllText
rows_text zero s xs out u = tt
rows_text (suc n) s xs out u = by (next_record default_config s [] [] xs) refl (rows_text n)
  where
    by : (o : Option Read) → next_record default_config s [] [] xs ≡ o
        → ((t : State) (ys : List ℕ) → IsOutside t → IsUtf8 ys → AllRecordsText (records_from default_config n t ys))
        → AllRecordsText (records_next (records_from default_config n) (next_record default_config s [] [] xs))
    by None e go = rw e tt
    by (Some p) e go = let t = next_text xs s [] [] p out tt u e in rw e (t.0, go p.1 p.2 t.2 t.1)

mark : (a b c : ℕ) (rest : List ℕ) → is_bom a b c ≡ true → a ∷ b ∷ c ∷ rest ≡ encode 65279 ++ rest
unfolding encode
mark a b c rest e = grind (arith, nat_tests)

bom_text : (bs : List ℕ) → IsUtf8 bs → IsUtf8 (strip_bom bs)
unfolding strip_bom
bom_text [] u = u
bom_text (a ∷ []) u = u
bom_text (a ∷ b ∷ []) u = u
bom_text (a ∷ b ∷ c ∷ rest) u = text_if (is_bom a b c) (λ bs. bs) rest (a ∷ b ∷ c ∷ rest)
    (λ is. IsUtf8-past_char (a ∷ b ∷ c ∷ rest) rest 65279 u (mark a b c rest is)) (λ other. u)

pub records_text : (bytes : List ℕ) → IsUtf8 bytes → AllRecordsText (table_records bytes)
records_text bytes u = rows_text (length (strip_bom bytes) + 1) st.StartRecord (strip_bom bytes) tt (bom_text bytes u)
