-- What is known of departures, with one more before them.
use Rattle.std.proofs.Common.{◌≡◌, ◌<◌, ◌≤◌, ◌+◌, ◌-◌, ℕ, List, [], ◌∷◌, Some, None, Option, refl, sym, ◌∙◌, ap, subst, inl, inr, arith}
use Rattle.std.proofs.Common.{drop, get_or, length, max, min, option_map, slice_get, slice_index_or}
use Rattle.travel_times.specs.Figures.{AreInOrder, least_of, lesser, mean_wait, rounded, sum_of_all, wait, waits}
use Rattle.travel_times.specs.Falling.{falling}
use Rattle.travel_times.specs.Tally.{AreFrom, IsTally}
use Rattle.travel_times.specs.declared.spans.Span.{Span}
use Rattle.travel_times.specs.declared.tally.Tally.{Tally}
use Rattle.std.proofs.lemmas.Bool.{cases_lt}
use Rattle.std.proofs.lemmas.List.{at_drop_all, at_drop_more, get_or-drop, get_or_default, length-drop}
use Rattle.std.proofs.lemmas.List.Elements.{recursion_from_All}
use Rattle.std.proofs.lemmas.Option.{get_or_from_slice_get, none-some, slice_get-get_or}
use Rattle.travel_times.proofs.Waits.{wait_of_all, wait_of_none, wait_skips, waits_falling, waits_join, waits_none, waits_same}

module _ (after until : ℕ) (span : Span) (later : List Span) (tally now : Tally) (known : IsTally after until later tally)
    (before_all : AreFrom span.departure later) (second : ℕ) (second_is : second ≡ max (min span.departure until + 1) after) where
  in_time : second ≤ tally.next
  in_time =
      let reached : min span.departure until < tally.next = known.latest span.departure before_all in
      let from = known.from in
      omega (arith, reached, from, second_is)

  past : (s : ℕ) → second ≤ s → s < until + 1 → span.departure < s
  past s from below = omega (arith, from, below, second_is)

  counted : waits (span ∷ later) second (tally.next - second) ≡ Some (falling (tally.earliest - second) (tally.next - second))
  counted = waits_falling (span ∷ later) tally.earliest second (tally.next - second) (λ s from below.
      let le = in_time in
      let within = known.within in
      let early : s < tally.next = omega (arith, from, below, le) in
      wait_skips span later s (past s from (omega (arith, early, within)))
      ∙ wait_of_all later s tally.earliest (known.before s (omega (arith, from, second_is)) early) known.earliest)

  others : waits (span ∷ later) tally.next (until + 1 - tally.next) ≡ Some tally.sum
  others = waits_same (span ∷ later) later tally.next (until + 1 - tally.next) (λ s from below.
      let le = in_time in
      let within = known.within in
      wait_skips span later s (past s (omega (arith, from, le)) (omega (arith, from, below, within)))) ∙ known.sum

  all : waits (span ∷ later) second (until + 1 - second) ≡ Some (falling (tally.earliest - second) (tally.next - second) + tally.sum)
  all =
      let le = in_time in
      let within = known.within in
      let there : tally.next ≡ second + (tally.next - second) = omega (arith, le) in
      let long : tally.next - second + (until + 1 - tally.next) ≡ until + 1 - second = omega (arith, le, within) in
      ap (waits (span ∷ later) second) (sym long)
      ∙ waits_join (span ∷ later) second (tally.next - second) (until + 1 - tally.next) _ tally.sum counted
      (subst (λ s. waits (span ∷ later) s (until + 1 - tally.next) ≡ Some tally.sum) there others)

  pub one_earlier : now.next ≡ min tally.next second → now.earliest ≡ min span.arrival tally.earliest
      → now.sum ≡ tally.sum + falling (tally.earliest - second) (tally.next - second) → IsTally after until (span ∷ later) now
  unfolding least_of
  one_earlier next_is earliest_is sum_is =
      let le = in_time in
      let within = known.within in
      let next : now.next ≡ second = next_is ∙ (omega (arith, le)) in
      let sum : now.sum ≡ falling (tally.earliest - second) (tally.next - second) + tally.sum = omega (arith, sum_is) in
      record {
        from = omega (arith, next, second_is);
        within = omega (arith, next, le, within);
        before = λ s from below.
            (omega (arith, from, below, next, second_is), known.before s from (omega (arith, below, next, le)));
        latest = λ departure from.
            let h = from.0 in
            omega (arith, h, second_is, next);
        earliest = ap (λ (o : Option ℕ). Some (lesser span.arrival o)) known.earliest ∙ ap (λ (n : ℕ). Some n) (sym earliest_is);
        sum = subst (λ s. waits (span ∷ later) s (until + 1 - s) ≡ Some now.sum) (sym next) (all ∙ ap (λ (n : ℕ). Some n) (sym sum));
      }

-- the last departure, by itself
pub last_alone : (after until : ℕ) (span : Span) (tally : Tally) → after ≤ until → until ≤ span.departure → tally.next ≡ until + 1
    → tally.earliest ≡ span.arrival → tally.sum ≡ 0 → IsTally after until (span ∷ []) tally
unfolding least_of sum_of_all
last_alone after until span tally window late next earliest sum =
    let none : until + 1 - tally.next ≡ 0 = omega (arith, next) in
    record {
      from = omega (arith, next, window);
      within = omega (arith, next);
      before = λ s from below. (omega (arith, below, next, late), tt);
      latest = λ departure from. omega (arith, next);
      earliest = ap (λ (n : ℕ). Some n) (sym earliest);
      sum = ap (waits (span ∷ []) tally.next) none ∙ ap (λ (n : ℕ). Some n) (sym sum);
    }

-- all seconds of the window
pub whole_window : (after until : ℕ) (spans : List Span) (tally : Tally) → IsTally after until spans tally
    → waits spans after (until + 1 - after) ≡ Some (tally.sum + falling (tally.earliest - after) (tally.next - after))
whole_window after until spans tally known =
    let from = known.from in
    let within = known.within in
    let first : waits spans after (tally.next - after) ≡ Some (falling (tally.earliest - after) (tally.next - after)) =
    waits_falling spans tally.earliest after (tally.next - after) (λ s late early.
    wait_of_all spans s tally.earliest (known.before s late (omega (arith, late, early, from))) known.earliest) in
    let there : tally.next ≡ after + (tally.next - after) = omega (arith, from) in
    let long : tally.next - after + (until + 1 - tally.next) ≡ until + 1 - after = omega (arith, from, within) in
    let swapped : falling (tally.earliest - after) (tally.next - after) + tally.sum ≡ tally.sum + falling (tally.earliest - after) (tally.next - after) =
    omega arith in
    ap (waits spans after) (sym long)
    ∙ waits_join spans after (tally.next - after) (until + 1 - tally.next) _ tally.sum first
    (subst (λ s. waits spans s (until + 1 - tally.next) ≡ Some tally.sum) there known.sum)
    ∙ ap (λ (n : ℕ). Some n) swapped

-- the mean, from the sum
pub mean_of_tally : (after until : ℕ) (spans : List Span) (tally : Tally) (from sum up down mean : ℕ) → IsTally after until spans tally
    → from ≡ after → sum ≡ tally.sum + falling (tally.earliest - from) (tally.next - from) → up ≡ until → down ≡ after
    → mean ≡ rounded sum (up + 1 - down) → Some mean ≡ mean_wait spans after until
mean_of_tally after until spans tally from sum up down mean known from_is sum_is up_is down_is is =
    let total : waits spans after (until + 1 - after) ≡ Some sum =
    whole_window after until spans tally known
    ∙ ap (λ (f : ℕ). Some (tally.sum + falling (tally.earliest - f) (tally.next - f))) (sym from_is) ∙ ap (λ (n : ℕ). Some n) (sym sum_is) in
    let divided : mean ≡ rounded sum (until + 1 - after) =
    is ∙ ap (λ u. rounded sum (u + 1 - down)) up_is ∙ ap (λ d. rounded sum (until + 1 - d)) down_is in
    ap (λ (n : ℕ). Some n) divided ∙ sym (ap (option_map (λ s. rounded s (until + 1 - after))) total)

-- none, if the end of the window has no wait
no_wait : (after until : ℕ) (spans : List Span) → after ≤ until → wait spans until ≡ None → None ≡ mean_wait spans after until
no_wait after until spans window none =
    sym (ap (option_map (λ sum. rounded sum (until + 1 - after)))
    (waits_none spans after (until + 1 - after) until window (omega (arith, window)) none))

-- none, if the last departure is before the end of the window
pub no_mean : (after until : ℕ) (spans : List Span) (last : Span) → after ≤ until → AreInOrder spans
    → slice_get spans (length spans - 1) ≡ Some last → last.departure < until → None ≡ mean_wait spans after until
no_mean after until spans last window ordered at before =
    no_wait after until spans window (wait_of_none spans until (recursion_from_All (λ (span : Span). span.departure < until) spans each))
  where
    last_at : (d : Span) → slice_index_or spans (length spans - 1) d ≡ last
    last_at d = get_or_from_slice_get spans (length spans - 1) last d at

    each : (k : ℕ) (d : Span) → k < length spans → (slice_index_or spans k d).departure < until
    each k d lt = elim (cases_lt k (length spans - 1)) [
      | inl earlier ↦ (
          let le : (slice_index_or spans k d).departure ≤ (slice_index_or spans (length spans - 1) d).departure =
          ordered k (length spans - 1) d earlier (omega (arith, lt)) in
          let same : (slice_index_or spans (length spans - 1) d).departure ≡ last.departure = ap (λ (s : Span). s.departure) (last_at d) in
          omega (arith, le, same, before))
      | inr not_earlier ↦ (
          let here : k ≡ length spans - 1 = omega (arith, lt, not_earlier) in
          let same : (slice_index_or spans k d).departure ≡ last.departure =
          ap (λ n. (slice_index_or spans n d).departure) here ∙ ap (λ (s : Span). s.departure) (last_at d) in
          omega (arith, same, before))
    ]

-- none, if there are no departures
pub no_departures : (after until : ℕ) (spans : List Span) → after ≤ until → slice_get spans (length spans - 1) ≡ None
    → None ≡ mean_wait spans after until
unfolding least_of
no_departures after until [] window none = no_wait after until [] window refl
no_departures after until (span ∷ spans) window none =
    let within : length (span ∷ spans) - 1 < length (span ∷ spans) = omega arith in
    absurd (none-some _ (sym none ∙ slice_get-get_or (span ∷ spans) (length (span ∷ spans) - 1) span within))

-- the last of all departures
pub tally_begun : (after until : ℕ) (spans : List Span) (tally : Tally) (index : ℕ) (last : Span) → index + 1 ≡ length spans
    → last ≡ get_or spans index last → after ≤ until → until ≤ last.departure → tally.next ≡ until + 1 → tally.earliest ≡ last.arrival
    → tally.sum ≡ 0 → IsTally after until (drop index spans) tally
tally_begun after until spans tally index last end there window late next earliest sum =
    let one : drop index spans ≡ last ∷ [] =
    at_drop_more (λ (xs : List Span). xs) spans index last (omega (arith, end))
    ∙ ap (λ (s : Span). s ∷ drop (index + 1) spans) (sym there)
    ∙ ap (λ (xs : List Span). last ∷ xs) (at_drop_all (λ (xs : List Span). xs) spans (index + 1) (omega (arith, end))) in
    subst (λ (xs : List Span). IsTally after until xs tally) (sym one) (last_alone after until last tally window late next earliest sum)

-- all later departures are at or after one
later_from : (spans : List Span) (index : ℕ) (span : Span) → AreInOrder spans → span ≡ get_or spans index span
    → AreFrom span.departure (drop (index + 1) spans)
later_from spans index span ordered there =
    recursion_from_All (λ (later : Span). span.departure ≤ later.departure) (drop (index + 1) spans) (λ k d lt.
    let long : length (drop (index + 1) spans) ≡ length spans - (index + 1) = length-drop (index + 1) spans in
    let le : (get_or spans index span).departure ≤ (get_or spans (index + 1 + k) span).departure =
    ordered index (index + 1 + k) span (omega arith) (omega (arith, lt, long)) in
    let here : (get_or spans index span).departure ≡ span.departure = ap (λ (s : Span). s.departure) (sym there) in
    let same : (get_or (drop (index + 1) spans) k d).departure ≡ (get_or spans (index + 1 + k) span).departure =
    ap (λ (s : Span). s.departure) (get_or-drop (index + 1) spans k d
    ∙ get_or_default spans (index + 1 + k) d span (omega (arith, lt, long))) in
    omega (arith, le, here, same))

-- one more of them
pub tally_grown : (after until : ℕ) (spans : List Span) (tally now : Tally) (index : ℕ) (span : Span) → index + 1 < length spans
    → span ≡ get_or spans index span → AreInOrder spans
    → ((later : List Span) → IsTally after until later tally → AreFrom span.departure later → IsTally after until (span ∷ later) now)
    → IsTally after until (drop (index + 1) spans) tally → IsTally after until (drop index spans) now
tally_grown after until spans tally now index span within there ordered grows known =
    let one : drop index spans ≡ span ∷ drop (index + 1) spans =
    at_drop_more (λ (xs : List Span). xs) spans index span (omega (arith, within))
    ∙ ap (λ (s : Span). s ∷ drop (index + 1) spans) (sym there) in
    subst (λ (xs : List Span). IsTally after until xs now) (sym one)
    (grows (drop (index + 1) spans) known (later_from spans index span ordered there))
