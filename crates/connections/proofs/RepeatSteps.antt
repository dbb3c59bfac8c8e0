-- The starts of a trip that repeats, one at a time.
use Rattle.std.proofs.Common.{◌≡◌, ℕ, zero, suc, ◌+◌, ◌-◌, ◌*◌, ◌/◌, ◌%◌, ◌<◌, ◌≤◌, inl, inr, min, max, List, [], ◌∷◌, ◌++◌, length, get_or, take, Option, Some}
use Rattle.std.proofs.Common.{None, Bool, true, false, ◌||◌, ◌&&◌, ◌==◌, refl, sym, ap, ◌∙◌, arith, append_assoc, suc-mul}
use Rattle.std.specs.Prelude.{MatchOption, IfSome, nat_le, nat_lt, if◌then◌else◌}
use Rattle.std.proofs.lemmas.Bool.{and_left, and_parts, and_right, cases_eq, cases_lt, false≢true, le-ltb, lt-leb, lt-ltb, le-leb, eq-eqb, and_from, ltb-true}
use Rattle.std.proofs.lemmas.Bool.{ne_eqb, or_cases, or_from, or_left, or_right}
use Rattle.std.proofs.lemmas.List.{append-nil, length-take-le, take_more}
use Rattle.std.proofs.lemmas.List.Folds.{list_any_more}
use Rattle.std.proofs.lemmas.Nat.{div-add-mod', mod-mul-add, mod_below}
use Rattle.gtfs_rows.specs.declared.values.Day.{Day}
use Rattle.gtfs_tables.specs.declared.tables.Frequency.{Frequency}
use Rattle.connections.specs.Repeats.{is_start, last_end, leaves_at, starts_before, starts_of}
use Rattle.connections.specs.Runs.{repeats_from}
use Rattle.connections.specs.Starts.{IsNever, IsNext, earlier_of}
use Rattle.connections.specs.declared.runs.Run.{Run}

-- ---- one row

pub positive : (n : ℕ) → (n ≡ 0 → ⊥) → 0 < n
positive zero some = absurd (some refl)
positive (suc n) some = omega arith

-- what has passed since a row's last start, and what is left until its next
abbrev pub wait_of : ℕ → ℕ → ℕ
wait_of past headway = if past == 0 then 0 else headway - past

-- a time between two starts isn't a whole number of headways on
between : (gone q h past wait e : ℕ) → gone ≡ q * h + past → past < h → wait ≡ wait_of past h → gone ≤ e → e < gone + wait → e % h ≡ 0 → ⊥
between gone q h past wait e is below waits low high none =
    elim (cases_eq past 0) [
      | inl zero_past ↦ (let w : wait ≡ 0 = waits ∙ rw zero_past refl in omega (arith, w, low, high))
      | inr some ↦
          let w : wait ≡ h - past = waits ∙ rw (ne_eqb past 0 some) refl in
          let r : past + (e - gone) < h = omega (arith, w, low, high, below) in
          let position : e ≡ q * h + (past + (e - gone)) = omega (arith, is, low) in
          let rest : e % h ≡ past + (e - gone) = ap (λ n. n % h) position ∙ mod-mul-add q h (past + (e - gone)) r in
          some (omega (arith, rest, none))
    ]

-- the next start is one
whole : (gone q h past wait : ℕ) → gone ≡ q * h + past → past < h → wait ≡ wait_of past h → (gone + wait) % h ≡ 0
whole gone q h past wait is below waits =
    elim (cases_eq past 0) [
      | inl zero_past ↦
          let w : wait ≡ 0 = waits ∙ rw zero_past refl in
          let position : gone + wait ≡ q * h + 0 = omega (arith, is, w, zero_past) in
          ap (λ n. n % h) position ∙ mod-mul-add q h 0 (omega (arith, below))
      | inr some ↦
          let w : wait ≡ h - past = waits ∙ rw (ne_eqb past 0 some) refl in
          let more : suc q * h ≡ q * h + h = suc-mul q h in
          let position : gone + wait ≡ suc q * h + 0 = omega (arith, is, w, below, more) in
          ap (λ n. n % h) position ∙ mod-mul-add (suc q) h 0 (omega (arith, below))
    ]

-- so much has passed since a row's last start, and so much is left until its next
pub record IsAwaited (row : Frequency) (from past wait : ℕ) : Type 0 where
  pub some : 0 < row.headway
  pub passed : past ≡ (from - row.start) % row.headway
  pub waits : wait ≡ wait_of past row.headway

module _ (row : Frequency) (from past wait start : ℕ) (known : IsAwaited row from past wait) (starts : start ≡ max from row.start + wait) where
  gone : from - row.start ≡ (from - row.start) / row.headway * row.headway + past
  gone = sym (div-add-mod' (from - row.start) row.headway) ∙ ap (λ n. (from - row.start) / row.headway * row.headway + n) (sym known.passed)

  below : past < row.headway
  below = (let passed = known.passed in let less = mod_below (from - row.start) row.headway known.some in omega (arith, passed, less))

  pub row_before : (s : ℕ) → from ≤ s → s < start → leaves_at s row ≡ false
  row_before s low high = elim (cases_lt s row.start) [
    | inl early ↦
        and_left (nat_lt 0 row.headway && nat_le row.start s && nat_lt s row.end) ((s - row.start) % row.headway == 0)
        (and_left (nat_lt 0 row.headway && nat_le row.start s) (nat_lt s row.end)
        (and_right (nat_lt 0 row.headway) (nat_le row.start s) (lt-leb row.start s early)))
    | inr late ↦
        and_right (nat_lt 0 row.headway && nat_le row.start s && nat_lt s row.end) ((s - row.start) % row.headway == 0)
        (ne_eqb ((s - row.start) % row.headway) 0
        (between (from - row.start) ((from - row.start) / row.headway) row.headway past wait (s - row.start) gone below known.waits (omega (arith, low, late))
        (omega (arith, starts, high, late))))
  ]

  pub row_next : start < row.end → IsNext (λ s. leaves_at s row) from start
  row_next lt =
      let far : start - row.start ≡ from - row.start + wait = omega (arith, starts) in
      let at : (start - row.start) % row.headway ≡ 0 = ap (λ n. n % row.headway) far
      ∙ whole (from - row.start) ((from - row.start) / row.headway) row.headway past wait gone below known.waits in
      record {
        after = omega (arith, starts);
        is = and_from (nat_lt 0 row.headway && nat_le row.start start && nat_lt start row.end) ((start - row.start) % row.headway == 0)
            (and_from (nat_lt 0 row.headway && nat_le row.start start) (nat_lt start row.end)
            (and_from (nat_lt 0 row.headway) (nat_le row.start start) (lt-ltb 0 row.headway known.some) (le-leb row.start start (omega (arith, starts))))
            (lt-ltb start row.end lt))
            (eq-eqb ((start - row.start) % row.headway) 0 at);
        first = row_before;
      }

  pub row_never : row.end ≤ start → IsNever (λ s. leaves_at s row) from
  row_never over s low = elim (cases_lt s start) [
    | inl early ↦ row_before s low early
    | inr late ↦
        and_left (nat_lt 0 row.headway && nat_le row.start s && nat_lt s row.end) ((s - row.start) % row.headway == 0)
        (and_right (nat_lt 0 row.headway && nat_le row.start s) (nat_lt s row.end) (le-ltb s row.end (omega (arith, over, late))))
  ]

-- ---- rows

-- what is next under one name is so under the other
next_at : (r : ℕ → Bool) (from n a : ℕ) → n ≡ a → from ≤ a → r a ≡ true → ((s : ℕ) → from ≤ s → s < a → r s ≡ false) → IsNext r from n
next_at r from n a same after is first = rw same (record { after = after; is = is; first = first })

-- of two tests, the one or the other
pub next_of_both : (p q r : ℕ → Bool) (from : ℕ) (a b : Option ℕ) → ((s : ℕ) → r s ≡ (p s || q s)) → MatchOption a (IsNever p from) (IsNext p from)
    → MatchOption b (IsNever q from) (IsNext q from)
    → MatchOption (earlier_of a b) (IsNever r from) (IsNext r from)
next_of_both p q r from None None e x y = λ s low. e s ∙ or_from (p s) (q s) (x s low) (y s low)
next_of_both p q r from None (Some b) e x y = record {
  after = y.after;
  is = e b ∙ or_right (p b) (q b) y.is;
  first = λ s low high. e s ∙ or_from (p s) (q s) (x s low) (y.first s low high);
}
next_of_both p q r from (Some a) None e x y = record {
  after = x.after;
  is = e a ∙ or_left (p a) (q a) x.is;
  first = λ s low high. e s ∙ or_from (p s) (q s) (x.first s low high) (y s low);
}
next_of_both p q r from (Some a) (Some b) e x y = elim (cases_lt a b) [
  | inl less ↦ next_at r from (min a b) a (omega (arith, less)) x.after (e a ∙ or_left (p a) (q a) x.is)
      (λ s low high. e s ∙ or_from (p s) (q s) (x.first s low high) (y.first s low (omega (arith, high, less))))
  | inr more ↦ next_at r from (min a b) b (omega (arith, more)) y.after (e b ∙ or_right (p b) (q b) y.is)
      (λ s low high. e s ∙ or_from (p s) (q s) (x.first s low (omega (arith, high, more))) (y.first s low high))
]

pub room_of_both : (a b : Option ℕ) (most : ℕ) → IfSome a (λ n. n < most) → IfSome b (λ n. n < most) → IfSome (earlier_of a b) (λ n. n < most)
room_of_both None b most x y = y
room_of_both (Some a) None most x y = x
room_of_both (Some a) (Some b) most x y = omega (arith, x, y)

-- a row more
pub start_more : (rows : List Frequency) (i : ℕ) (d : Frequency) → i < length rows → (s : ℕ)
    → is_start (take (i + 1) rows) s ≡ (is_start (take i rows) s || leaves_at s (get_or rows i d))
start_more rows i d lt s = list_any_more (leaves_at s) rows i d lt

-- ---- the starts before a time

pub starts_skip : (rows : List Frequency) (from n : ℕ) → from ≤ n → ((s : ℕ) → from ≤ s → s < n → is_start rows s ≡ false)
    → starts_before rows n ≡ starts_before rows from
unfolding starts_before
starts_skip rows from zero le none = let e : from ≡ zero = omega (arith, le) in rw e refl
starts_skip rows from (suc n) le none = elim (cases_eq from (suc n)) [
  | inl same ↦ rw same refl
  | inr other ↦ rw (none n (omega (arith, le, other)) (omega arith))
      (starts_skip rows from n (omega (arith, le, other)) (λ s low high. none s low (omega (arith, high))))
]

pub start_here : (rows : List Frequency) (s : ℕ) → is_start rows s ≡ true → starts_before rows (suc s) ≡ starts_before rows s ++ s ∷ []
unfolding starts_before
start_here rows s is = rw is refl

pub starts_next : (rows : List Frequency) (from start : ℕ) → IsNext (is_start rows) from start
    → starts_before rows (start + 1) ≡ starts_before rows from ++ start ∷ []
starts_next rows from start x =
    let e : start + 1 ≡ suc start = omega arith in
    ap (starts_before rows) e ∙ start_here rows start x.is ∙ ap (λ xs. xs ++ start ∷ []) (starts_skip rows from start x.after x.first)

pub starts_end : (rows : List Frequency) (from : ℕ) → from ≤ last_end rows → IsNever (is_start rows) from → starts_of rows ≡ starts_before rows from
starts_end rows from le none = starts_skip rows from (last_end rows) le (λ s low high. none s low)

pub starts_none : (rows : List Frequency) → starts_before rows 0 ≡ []
unfolding starts_before
starts_none rows = refl

-- a start lies before the greatest end
pub start_below : (rows : List Frequency) (s : ℕ) → is_start rows s ≡ true → s < last_end rows
unfolding last_end
start_below [] s is = absurd (false≢true is)
start_below (row ∷ rows) s is = elim (or_cases (leaves_at s row) (is_start rows s) is) [
  | inl here ↦
      let parts = (and_parts (nat_lt 0 row.headway && nat_le row.start s && nat_lt s row.end) ((s - row.start) % row.headway == 0) here).0 in
      let lt = ltb-true s row.end (and_parts (nat_lt 0 row.headway && nat_le row.start s) (nat_lt s row.end) parts).1 in
      omega (arith, lt)
  | inr later ↦ (let lt = start_below rows s later in omega (arith, lt))
]

-- ---- the runs of those starts

pub repeats_push : (day : Day) (t r k s : ℕ) (starts : List ℕ) → k ≡ r + length starts
    → repeats_from day t r (starts ++ s ∷ []) ≡ repeats_from day t r starts ++ record { day = day; trip = t; repeat = k; start = Some s } ∷ []
unfolding repeats_from
repeats_push day t r k s [] e = let same : k ≡ r = omega (arith, e) in rw same refl
repeats_push day t r k s (first ∷ starts) e = ap (λ rest. record { day = day; trip = t; repeat = r; start = Some first } ∷ rest)
    (repeats_push day t (r + 1) k s starts (omega (arith, e)))

pub repeats_none : (day : Day) (t r : ℕ) → repeats_from day t r [] ≡ []
unfolding repeats_from
repeats_none day t r = refl

pub repeats_count : (day : Day) (t r : ℕ) (starts : List ℕ) → length (repeats_from day t r starts) ≡ length starts
unfolding repeats_from
repeats_count day t r [] = refl
repeats_count day t r (s ∷ starts) = ap (λ n. suc n) (repeats_count day t (r + 1) starts)

-- the runs of listed starts, one more
pub pushed_none : (day : Day) (t : ℕ) (old : List Run) → old ≡ old ++ repeats_from day t 0 []
pushed_none day t old = sym (ap (λ (rs : List Run). old ++ rs) (repeats_none day t 0) ∙ append-nil old)

pub pushed_more : (day : Day) (t k : ℕ) (starts : List ℕ) (i d : ℕ) (old mid new : List Run) → i < length starts → k ≡ i
    → mid ≡ old ++ repeats_from day t 0 (take i starts)
    → new ≡ mid ++ record { day = day; trip = t; repeat = k; start = Some (get_or starts i d) } ∷ []
    → new ≡ old ++ repeats_from day t 0 (take (i + 1) starts)
pushed_more day t k starts i d old mid new lt number was now =
    let run : Run = record { day = day; trip = t; repeat = k; start = Some (get_or starts i d) } in
    let len : length (take i starts) ≡ i = length-take-le i starts (omega (arith, lt)) in
    now ∙ ap (λ (rs : List Run). rs ++ run ∷ []) was ∙ append_assoc old (repeats_from day t 0 (take i starts)) (run ∷ [])
    ∙ ap (λ (rs : List Run). old ++ rs) (sym (ap (repeats_from day t 0) (take_more starts i d lt)
    ∙ repeats_push day t 0 k (get_or starts i d) (take i starts) (omega (arith, len, number))))
