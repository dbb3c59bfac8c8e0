-- What the starts of a trip are.
use Rattle.std.proofs.Common.{◌≡◌, ℕ, zero, suc, ℤ, ◌+◌, ◌-◌, ◌*◌, ◌/◌, ◌%◌, ◌<◌, ◌↔◌, inl, inr, List, [], ◌∷◌, length, get_or, Option, None, true, Contains}
use Rattle.std.proofs.Common.{◌&&◌, ◌==◌, refl, sym, ap, ◌∙◌, subst, arith}
use Rattle.std.specs.Prelude.{nat_le, nat_lt, ◌+ℤ◌, pos}
use Rattle.std.proofs.lemmas.Bool.{and_from, and_parts, cases_Bool, cases_eq, eq-eqb, eqb-true, le-leb, leb-true, lt-ltb, ltb-true}
use Rattle.std.proofs.lemmas.Int.{ints}
use Rattle.std.proofs.lemmas.List.{get_or_append_left, get_or_push, length_push}
use Rattle.std.proofs.lemmas.List.Elements.{Contains-append_cases, Contains-append_left, Contains-append_right, Contains-get_or}
use Rattle.std.proofs.lemmas.List.Folds.{Any-from_list_any, list_any_at}
use Rattle.std.proofs.lemmas.Nat.{div-add-mod', mod-mul-add}
use Rattle.reasoning.proofs.ListLemmas.{contains_only}
use Rattle.gtfs_rows.specs.declared.rows.StopTimeRow.{StopTimeRow}
use Rattle.gtfs_tables.specs.declared.tables.Frequency.{Frequency}
use Rattle.service_days.specs.Zones.{IsDayStart}
use Rattle.service_days.specs.declared.zone.Zone.{Zone}
use Rattle.connections.specs.Hops.{shift_of}
use Rattle.connections.specs.Listed.{IsRunStart}
use Rattle.connections.specs.Repeats.{is_start, last_end, leaves_at, starts_before, starts_of}
use Rattle.connections.specs.declared.runs.Run.{Run}
use Rattle.connections.proofs.RepeatSteps.{start_below, start_here}

-- ---- which times are starts

-- what a start before a time is, and which are there
only_before : (rows : List Frequency) (n s : ℕ) → Contains (starts_before rows n) s → (s < n) × (is_start rows s ≡ true)
unfolding starts_before
only_before rows zero s inside = absurd (let lt = inside.1 in omega (arith, lt))
only_before rows (suc n) s inside = elim (cases_Bool (is_start rows n)) [
  | inl met ↦ elim (Contains-append_cases (starts_before rows n) (n ∷ []) s (subst (λ (xs : List ℕ). Contains xs s) (start_here rows n met) inside)) [
    | inl old ↦ (let was = only_before rows n s old in (let lt = was.0 in omega (arith, lt), was.1))
    | inr fresh ↦ (let same : s ≡ n = contains_only n s fresh in (omega (arith, same), ap (is_start rows) same ∙ met))
  ]
  | inr unmet ↦ (let same : starts_before rows (suc n) ≡ starts_before rows n = rw unmet refl in
      let was = only_before rows n s (subst (λ (xs : List ℕ). Contains xs s) same inside) in (let lt = was.0 in omega (arith, lt), was.1))
]

each_before : (rows : List Frequency) (n s : ℕ) → s < n → is_start rows s ≡ true → Contains (starts_before rows n) s
unfolding starts_before
each_before rows zero s lt is = absurd (omega (arith, lt))
each_before rows (suc n) s lt is = elim (cases_eq s n) [
  | inl same ↦
      let here : is_start rows n ≡ true = ap (is_start rows) (sym same) ∙ is in
      subst (λ (xs : List ℕ). Contains xs s) (sym (start_here rows n here)) (Contains-append_right (starts_before rows n) (n ∷ []) s (0, omega arith, sym same))
  | inr other ↦ (let old = each_before rows n s (omega (arith, lt, other)) is in elim (cases_Bool (is_start rows n)) [
    | inl yes_start ↦ subst (λ (xs : List ℕ). Contains xs s) (sym (start_here rows n yes_start)) (Contains-append_left (starts_before rows n) (n ∷ []) s old)
    | inr no_start ↦ rw no_start old
  ])
]

pub starts_only : (rows : List Frequency) (s : ℕ) → Contains (starts_of rows) s
    → (row : Frequency) × Contains rows row × (0 < row.headway) × (n : ℕ) × (s ≡ row.start + n * row.headway) × (s < row.end)
starts_only rows s inside =
    let found = Any-from_list_any (leaves_at s) rows (only_before rows (last_end rows) s inside).1 in
    let row = found.1 in
    let parts = and_parts (nat_lt 0 row.headway && nat_le row.start s && nat_lt s row.end) ((s - row.start) % row.headway == 0) found.4 in
    let more = and_parts (nat_lt 0 row.headway && nat_le row.start s) (nat_lt s row.end) parts.0 in
    let begun = and_parts (nat_lt 0 row.headway) (nat_le row.start s) more.0 in
    let late = leb-true row.start s begun.1 in
    let none : (s - row.start) % row.headway ≡ 0 = eqb-true ((s - row.start) % row.headway) 0 parts.1 in
    let n : ℕ = (s - row.start) / row.headway in
    let split = div-add-mod' (s - row.start) row.headway in
    let is : s ≡ row.start + n * row.headway = omega (arith, late, none, split) in
    (row, (found.0, found.2, found.3), ltb-true 0 row.headway begun.0, n, is, ltb-true s row.end more.1)

pub starts_each : (rows : List Frequency) (row : Frequency) (n : ℕ) → Contains rows row → 0 < row.headway → row.start + n * row.headway < row.end
    → Contains (starts_of rows) (row.start + n * row.headway)
starts_each rows row n inside some lt =
    let s : ℕ = row.start + n * row.headway in
    let far : s - row.start ≡ n * row.headway + 0 = omega arith in
    let at : (s - row.start) % row.headway ≡ 0 = ap (λ k. k % row.headway) far ∙ mod-mul-add n row.headway 0 some in
    let leaves : leaves_at s row ≡ true = and_from (nat_lt 0 row.headway && nat_le row.start s && nat_lt s row.end) ((s - row.start) % row.headway == 0)
    (and_from (nat_lt 0 row.headway && nat_le row.start s) (nat_lt s row.end)
    (and_from (nat_lt 0 row.headway) (nat_le row.start s) (lt-ltb 0 row.headway some) (le-leb row.start s (omega arith))) (lt-ltb s row.end lt))
    (eq-eqb ((s - row.start) % row.headway) 0 at) in
    let is : is_start rows s ≡ true = list_any_at (leaves_at s) rows inside.0 row inside.1 (ap (leaves_at s) inside.2 ∙ leaves) in
    each_before rows (last_end rows) s (start_below rows s is) is

-- ---- they rise

rise_before : (rows : List Frequency) (n i j d : ℕ) → i < j → j < length (starts_before rows n)
    → get_or (starts_before rows n) i d < get_or (starts_before rows n) j d
unfolding starts_before
rise_before rows zero i j d lt within = absurd (omega (arith, within))
rise_before rows (suc n) i j d lt within = elim (cases_Bool (is_start rows n)) [
  | inl yes_start ↦
      let size = length_push (starts_before rows n) n in
      let all : length (starts_before rows (suc n)) ≡ length (starts_before rows n) + 1 = ap length (start_here rows n yes_start) ∙ size in
      let low : get_or (starts_before rows (suc n)) i d ≡ get_or (starts_before rows n) i d = ap (λ xs. get_or xs i d) (start_here rows n yes_start)
      ∙ get_or_append_left (starts_before rows n) (n ∷ []) d i (omega (arith, lt, within, all)) in
      elim (cases_eq j (length (starts_before rows n))) [
        | inl same ↦
            let high : get_or (starts_before rows (suc n)) j d ≡ n = ap (λ xs. get_or xs j d) (start_here rows n yes_start)
            ∙ get_or_push (starts_before rows n) n d j (sym same) in
            let below = (only_before rows n (get_or (starts_before rows n) i d) (Contains-get_or (starts_before rows n) i d (omega (arith, lt, same)))).0 in
            omega (arith, low, high, below)
        | inr other ↦
            let high : get_or (starts_before rows (suc n)) j d ≡ get_or (starts_before rows n) j d = ap (λ xs. get_or xs j d) (start_here rows n yes_start)
            ∙ get_or_append_left (starts_before rows n) (n ∷ []) d j (omega (arith, within, all, other)) in
            let old = rise_before rows n i j d lt (omega (arith, within, all, other)) in
            omega (arith, low, high, old)
      ]
  | inr no_start ↦ rw no_start (rise_before rows n i j d lt (let same : length (starts_before rows (suc n)) ≡ length (starts_before rows n) =
      rw no_start refl in omega (arith, within, same)))
]

pub starts_rise : (rows : List Frequency) (i j d : ℕ) → i < j → j < length (starts_of rows) → get_or (starts_of rows) i d < get_or (starts_of rows) j d
starts_rise rows i j d lt within = rise_before rows (last_end rows) i j d lt within

-- ---- a run as its stop times stand

pub stands_from : (zone : Zone) (run : Run) (rows : List StopTimeRow) (start : ℤ) → run.start ≡ None
    → IsDayStart zone run.day start ↔ IsRunStart zone run rows start
stands_from zone run rows start none =
    let still : shift_of run.start rows ≡ pos 0 = ap (λ (o : Option ℕ). shift_of o rows) none in (
      λ day. record { day = start; is_day = day; is = (let e : start ≡ (start +ℤ pos 0) = omega (arith, ints) in e ∙ ap (λ z. start +ℤ z) (sym still)) },
      λ from. subst (λ (z : ℤ). IsDayStart zone run.day z) (let e : from.day ≡ (from.day +ℤ pos 0) = omega (arith, ints) in e
          ∙ ap (λ z. from.day +ℤ z) (sym still) ∙ sym from.is) from.is_day,
    )
