-- The marked starts of a trip's rows, one row and one second at a time.
use Rattle.std.proofs.Common.{◌≡◌, ℕ, zero, suc, ◌+◌, ◌-◌, ◌*◌, ◌/◌, ◌%◌, ◌<◌, ◌≤◌, inl, inr, max, min, set, replicate}
use Rattle.std.proofs.Common.{List, [], ◌∷◌, ◌++◌, length, get_or, take, All, Bool, true, false, ◌||◌, ◌&&◌, ◌==◌}
use Rattle.std.proofs.Common.{refl, sym, ap, ◌∙◌, arith}
use Rattle.std.specs.Prelude.{nat_le, nat_lt}
use Rattle.std.proofs.lemmas.Bool.{and_from, and_parts, cases_Bool, cases_eq, cases_lt, eq-eqb, eqb-true, false≢true}
use Rattle.std.proofs.lemmas.Bool.{le-leb, le-ltb, leb-true, lt-ltb, ltb-true, or_left, or_right}
use Rattle.std.proofs.lemmas.List.{get_or-replicate, get_or-set_other, get_or-set_same, length-replicate, length-set, take_more}
use Rattle.std.specs.Prelude.{IsPermutation}
use Rattle.std.proofs.lemmas.List.Sorted.{All-permutation, list_any-IsPermutation}
use Rattle.std.proofs.lemmas.Nat.{div-add-mod', mod-mul-add}
use Rattle.std.proofs.Math.Bool.{or-false}
use Rattle.gtfs_tables.specs.declared.tables.Frequency.{Frequency}
use Rattle.connections.specs.Marks.{AreMarks, Covers}
use Rattle.connections.specs.Repeats.{is_start, last_end, leaves_at, starts_before}
use Rattle.connections.specs.Starts.{IsNever, IsNext}
use Rattle.connections.proofs.RepeatSteps.{start_here, start_more}

-- ---- what a row's start is

-- the parts of a row's start
pub row_start : (s : ℕ) (row : Frequency) → leaves_at s row ≡ true
    → (0 < row.headway) × (row.start ≤ s) × (s < row.end) × ((s - row.start) % row.headway ≡ 0)
row_start s row is =
    let outer = and_parts (nat_lt 0 row.headway && nat_le row.start s && nat_lt s row.end) ((s - row.start) % row.headway == 0) is in
    let inner = and_parts (nat_lt 0 row.headway && nat_le row.start s) (nat_lt s row.end) outer.0 in
    let first = and_parts (nat_lt 0 row.headway) (nat_le row.start s) inner.0 in (
      ltb-true 0 row.headway first.0,
      leb-true row.start s first.1,
      ltb-true s row.end inner.1,
      eqb-true ((s - row.start) % row.headway) 0 outer.1,
    )

pub row_start_from : (s : ℕ) (row : Frequency) → 0 < row.headway → row.start ≤ s → s < row.end → (s - row.start) % row.headway ≡ 0
    → leaves_at s row ≡ true
row_start_from s row some late early none =
    and_from (nat_lt 0 row.headway && nat_le row.start s && nat_lt s row.end) ((s - row.start) % row.headway == 0)
    (and_from (nat_lt 0 row.headway && nat_le row.start s) (nat_lt s row.end)
    (and_from (nat_lt 0 row.headway) (nat_le row.start s) (lt-ltb 0 row.headway some) (le-leb row.start s late))
    (lt-ltb s row.end early))
    (eq-eqb ((s - row.start) % row.headway) 0 none)

-- two whole numbers of headways make one
whole_sum : (a b h : ℕ) → 0 < h → a % h ≡ 0 → b % h ≡ 0 → (a + b) % h ≡ 0
whole_sum a b h some x y =
    let first = div-add-mod' a h in
    let second = div-add-mod' b h in
    let is : a + b ≡ (a / h + b / h) * h + 0 = omega (arith, first, second, x, y) in
    ap (λ n. n % h) is ∙ mod-mul-add (a / h + b / h) h 0 some

-- a row of the same headway, which starts a whole number of headways later, has no start of its own before the other's end
pub row_covered : (other row : Frequency) → 0 < other.headway → other.headway ≡ row.headway → other.start ≤ row.start
    → (row.start - other.start) % row.headway ≡ 0 → Covers other row
row_covered other row some same late none s lt is =
    let start = row_start s row is in
    let after = start.1 in
    let some_row : 0 < row.headway = start.0 in
    let split : s - other.start ≡ (row.start - other.start) + (s - row.start) = omega (arith, late, after) in
    let rest : (s - other.start) % row.headway ≡ 0 =
    ap (λ n. n % row.headway) split ∙ whole_sum (row.start - other.start) (s - row.start) row.headway some_row none start.3 in
    row_start_from s other some (omega (arith, late, after)) lt (ap (λ h. (s - other.start) % h) same ∙ rest)

-- no row leaves at its end time or later
pub row_over : (row : Frequency) (s : ℕ) → row.end ≤ s → leaves_at s row ≡ false
row_over row s late = elim (cases_Bool (leaves_at s row)) [
  | inl is ↦ absurd (let early = (row_start s row is).2 in omega (arith, early, late))
  | inr none ↦ none
]

-- nor in the headway that follows a start
pub row_between : (row : Frequency) (start s : ℕ) → leaves_at start row ≡ true → start < s → s < start + row.headway → leaves_at s row ≡ false
row_between row start s is after before = elim (cases_Bool (leaves_at s row)) [
  | inl here ↦
      let q : ℕ = (start - row.start) / row.headway in
      let from = (row_start start row is).1 in
      let whole = (row_start start row is).3 in
      let none = (row_start s row here).3 in
      let split = div-add-mod' (start - row.start) row.headway in
      let position : s - row.start ≡ q * row.headway + (s - start) = omega (arith, from, after, split, whole) in
      let rest : (s - row.start) % row.headway ≡ s - start =
      ap (λ n. n % row.headway) position ∙ mod-mul-add q row.headway (s - start) (omega (arith, after, before)) in
      absurd (omega (arith, rest, none, after))
  | inr none ↦ none
]

-- it leaves again a headway after a start, before its end time
pub row_again : (row : Frequency) (start : ℕ) → leaves_at start row ≡ true → start + row.headway < row.end → leaves_at (start + row.headway) row ≡ true
row_again row start is lt =
    let some = (row_start start row is).0 in
    let from = (row_start start row is).1 in
    let one : row.headway ≡ 1 * row.headway + 0 = omega arith in
    let own : row.headway % row.headway ≡ 0 = ap (λ n. n % row.headway) one ∙ mod-mul-add 1 row.headway 0 some in
    let split : start + row.headway - row.start ≡ (start - row.start) + row.headway = omega (arith, from) in
    row_start_from (start + row.headway) row some (omega (arith, from)) lt
    (ap (λ n. n % row.headway) split ∙ whole_sum (start - row.start) row.headway row.headway some (row_start start row is).3 own)

-- ---- one row's marks

-- the starts of a row before a time are added to a test
abbrev pub with_row : (ℕ → Bool) → Frequency → ℕ → ℕ → Bool
with_row test row next s = test s || (leaves_at s row && nat_lt s next)

-- none of them is added, where those before a time are there already
pub marks_begin : (test : ℕ → Bool) (marks : List Bool) (row : Frequency) (from : ℕ) → AreMarks test marks
    → ((s : ℕ) → s < from → leaves_at s row ≡ true → test s ≡ true) → AreMarks (with_row test row from) marks
marks_begin test marks row from was covered s d lt = was s d lt ∙ sym (elim (cases_Bool (leaves_at s row)) [
  | inl is ↦ elim (cases_lt s from) [
    | inl low ↦ (let t : test s ≡ true = covered s low is in rw t refl)
    | inr high ↦ rw (is, le-ltb s from high) (or-false (test s))
  ]
  | inr none ↦ rw none (or-false (test s))
])

-- the next start is marked
pub marks_more : (test : ℕ → Bool) (marks : List Bool) (row : Frequency) (next start : ℕ) → AreMarks (with_row test row next) marks
    → IsNext (λ s. leaves_at s row) next start → start < length marks → AreMarks (with_row test row (start + 1)) (set marks start true)
marks_more test marks row next start was is within s d lt = elim (cases_eq s start) [
  | inl same ↦
      let here : get_or (set marks start true) s d ≡ true =
      ap (λ n. get_or (set marks start true) n d) same ∙ get_or-set_same marks start true d within in
      let leaves : leaves_at s row ≡ true = ap (λ n. leaves_at n row) same ∙ is.is in
      here ∙ sym (or_right (test s) (leaves_at s row && nat_lt s (start + 1))
      (and_from (leaves_at s row) (nat_lt s (start + 1)) leaves (lt-ltb s (start + 1) (omega (arith, same)))))
  | inr other ↦
      let size : s < length marks = (let kept = length-set marks start true in omega (arith, lt, kept)) in
      get_or-set_other marks start s true d other ∙ was s d size ∙ elim (cases_lt s next) [
        | inl low ↦ (let after = is.after in rw (lt-ltb s next low, lt-ltb s (start + 1) (omega (arith, low, after))) refl)
        | inr high ↦ elim (cases_lt s start) [
          | inl early ↦ (let none : leaves_at s row ≡ false = is.first s high early in rw none refl)
          | inr late ↦ rw (le-ltb s next high, le-ltb s (start + 1) (omega (arith, late, other))) refl
        ]
      ]
]

-- the marks stay up to the next start
pub marks_skip : (test : ℕ → Bool) (marks : List Bool) (row : Frequency) (from to : ℕ) → AreMarks (with_row test row from) marks → from ≤ to
    → ((s : ℕ) → from ≤ s → s < to → leaves_at s row ≡ false) → AreMarks (with_row test row to) marks
marks_skip test marks row from to was le none s d lt = was s d lt ∙ elim (cases_lt s from) [
  | inl low ↦ rw (lt-ltb s from low, lt-ltb s to (omega (arith, low, le))) refl
  | inr high ↦ elim (cases_lt s to) [
    | inl early ↦ (let off : leaves_at s row ≡ false = none s high early in rw off refl)
    | inr late ↦ rw (le-ltb s from high, le-ltb s to late) refl
  ]
]

-- a start is marked, and the next is a headway on
pub marks_step : (test : ℕ → Bool) (marks : List Bool) (row : Frequency) (start after room : ℕ) → AreMarks (with_row test row start) marks
    → leaves_at start row ≡ true → start < length marks → start < room → after ≡ min (start + row.headway) room
    → AreMarks (with_row test row after) (set marks start true)
marks_step test marks row start after room was is within low next =
    let some = (row_start start row is).0 in
    let here : IsNext (λ s. leaves_at s row) start start =
    record { after = omega arith; is = is; first = λ s early late. absurd (omega (arith, early, late)) } in
    marks_skip test (set marks start true) row (start + 1) after (marks_more test marks row start start was here within) (omega (arith, next, some, low))
    (λ s early late. row_between row start s is (omega (arith, early)) (omega (arith, late, next)))

-- the next is a start, before the row's end time
pub start_again : (row : Frequency) (start after room : ℕ) → leaves_at start row ≡ true → after ≡ min (start + row.headway) room → row.end ≤ room
    → after < row.end → leaves_at after row ≡ true
start_again row start after room is next fits lt =
    let same : after ≡ start + row.headway = omega (arith, next, fits, lt) in
    rw same (row_again row start is (omega (arith, same, lt)))

-- there is no further start
pub marks_end : (test : ℕ → Bool) (marks : List Bool) (row : Frequency) (next : ℕ) → AreMarks (with_row test row next) marks
    → IsNever (λ s. leaves_at s row) next → AreMarks (λ s. test s || leaves_at s row) marks
marks_end test marks row next was never s d lt = was s d lt ∙ elim (cases_Bool (leaves_at s row)) [
  | inl is ↦ elim (cases_lt s next) [
    | inl low ↦ rw (is, lt-ltb s next low) refl
    | inr high ↦ absurd (false≢true (sym (never s high) ∙ is))
  ]
  | inr none ↦ rw none refl
]

-- ---- the marks of rows

pub marks_none : (n : ℕ) → AreMarks (is_start []) (replicate n false)
marks_none n s d lt = get_or-replicate n s false d (let size = length-replicate n false in omega (arith, lt, size))

pub marks_row : (rows : List Frequency) (i : ℕ) (none : Frequency) (marks : List Bool) → i < length rows
    → AreMarks (λ s. is_start (take i rows) s || leaves_at s (get_or rows i none)) marks → AreMarks (is_start (take (i + 1) rows)) marks
marks_row rows i none marks lt was s d within = was s d within ∙ sym (start_more rows i none lt s)

-- what one of the rows covers stays so, and what the next one covers is so
pub covers_before : (rows : List Frequency) (i : ℕ) (none last : Frequency) → i < length rows
    → ((s : ℕ) → leaves_at s last ≡ true → is_start (take i rows) s ≡ true)
    → (s : ℕ) → leaves_at s last ≡ true → is_start (take (i + 1) rows) s ≡ true
covers_before rows i none last lt was s is =
    start_more rows i none lt s ∙ or_left (is_start (take i rows) s) (leaves_at s (get_or rows i none)) (was s is)

pub covers_here : (rows : List Frequency) (i : ℕ) (none : Frequency) → i < length rows
    → (s : ℕ) → leaves_at s (get_or rows i none) ≡ true → is_start (take (i + 1) rows) s ≡ true
covers_here rows i none lt s is =
    start_more rows i none lt s ∙ or_right (is_start (take i rows) s) (leaves_at s (get_or rows i none)) is

-- ---- the greatest end time

end_push : (rows : List Frequency) (row : Frequency) → last_end (rows ++ row ∷ []) ≡ max row.end (last_end rows)
unfolding last_end
end_push [] row = refl
end_push (first ∷ rows) row = (let rest = end_push rows row in omega (arith, rest))

pub end_more : (rows : List Frequency) (i : ℕ) (none : Frequency) → i < length rows
    → last_end (take (i + 1) rows) ≡ max (get_or rows i none).end (last_end (take i rows))
end_more rows i none lt = ap last_end (take_more rows i none lt) ∙ end_push (take i rows) (get_or rows i none)

pub end_none : last_end [] ≡ 0
unfolding last_end
end_none = refl

ends_below : (rows : List Frequency) → All (λ row. row.end ≤ last_end rows) rows
unfolding last_end
ends_below (row ∷ rows) zero none lt = omega arith
ends_below (row ∷ rows) (suc k) none lt = (let rest = ends_below rows k none (omega (arith, lt)) in omega (arith, rest))
ends_below [] k none lt = absurd (omega (arith, lt))

pub ends_moved : (rows sorted : List Frequency) (end : ℕ) → IsPermutation rows sorted → end ≡ last_end rows
    → All (λ row. row.end ≤ end) sorted
ends_moved rows sorted end moved is = rw is (All-permutation (λ (row : Frequency). row.end ≤ last_end rows) rows sorted moved (ends_below rows))

-- ---- the starts that are marked

pub starts_marked : (rows sorted : List Frequency) (marks : List Bool) (s : ℕ) (b : Bool) → IsPermutation rows sorted
    → AreMarks (is_start sorted) marks → s < length marks → b ≡ get_or marks s b → b ≡ is_start rows s
starts_marked rows sorted marks s b moved are lt is = is ∙ are s b lt ∙ sym (list_any-IsPermutation (leaves_at s) rows sorted moved)

pub starts_with : (rows : List Frequency) (s : ℕ) → is_start rows s ≡ true → starts_before rows (s + 1) ≡ starts_before rows s ++ s ∷ []
starts_with rows s is = (let e : s + 1 ≡ suc s = omega arith in ap (starts_before rows) e ∙ start_here rows s is)

pub starts_without : (rows : List Frequency) (s : ℕ) → is_start rows s ≡ false → starts_before rows (s + 1) ≡ starts_before rows s
unfolding starts_before
starts_without rows s none = (let e : s + 1 ≡ suc s = omega arith in ap (starts_before rows) e ∙ rw none refl)
