-- Words, and what they show.
use Rattle.std.proofs.Common.{◌≡◌, ◌≢◌, ℕ, ◌+◌, ◌-◌, ◌*◌, ◌/◌, ◌%◌, ◌<◌, ◌≤◌, ◌==◌, Bool, true, false, MatchBool, List}
use Rattle.std.proofs.Common.{[], ◌∷◌, ◌++◌, set, get_or, Some, slice_get, refl, ap, sym, ◌∙◌, subst, arith, length-set}
use Rattle.std.proofs.Common.{get_or-set_same, get_or-set_other, ◌⊎◌, inl, inr}
use Rattle.std.proofs.lemmas.List.{set-get_or}
use Rattle.std.proofs.lemmas.List.Sums.{count_by-le-length}
use Rattle.std.proofs.lemmas.Option.{slice_get_within}
use Rattle.std.proofs.lemmas.Bool.Decides.{nat_tests}
use mathlib.Core.Logic.{dite}
use native.Mathlib.Decide.{ℕ_discrete}
use Rattle.reasoning.proofs.ListLemmas.{at_below}
use Rattle.version_core.specs.declared.event.Event.{Event}
use Rattle.version_core.specs.declared.state.Shelf.{Shelf}
use Rattle.version_core.specs.State.{State, most_versions}
use Rattle.version_core.specs.Steps.{IsOpen}
use Rattle.version_core.specs.Invariants.{KeepsInvariants, is_at, version_on}
use Rattle.version_core.proofs.Shelves.{version_at}
use Rattle.version_core.specs.Shown.{WordsShow, shelf_word}
use Rattle.shelf_steps.specs.EventHistory.{EventHistory, LeadsToItsState, FoundAt, known_in_full}
use Rattle.shelf_steps.specs.Plays.{is_open}
use Rattle.shelf_steps.specs.Steps.{word_values}
use Rattle.shelf_steps.proofs.Courses.{kept_of}

-- the word that `CUR` was found to be
pub current_word : (s : State) (n : ℕ) → KeepsInvariants s → n ≡ 8 * s.current + s.current_shelf → (s.current_shelf < 8) × (n / 8 ≡ s.current) ×
    (n % 8 ≡ s.current_shelf)
current_word s n kept e = let l = slice_get_within s.shelves s.current_shelf _ kept.shelves.current_open in let z =
    kept.shelves.eight in (omega arith, omega arith, omega arith)

-- a load changes no word
pub words_same : (words : List ℕ) (i : ℕ) (s t : State) → WordsShow words s → t.current ≡ s.current
    → t.current_shelf ≡ s.current_shelf → t.shelves ≡ s.shelves → t.counts ≡ s.counts
    → WordsShow (set words i (get_or words i 0)) t
words_same words i s t w a b c d = subst (λ (l : List ℕ). WordsShow l t) (sym (set-get_or words i 0)) record {
  nine = w.nine;
  cur = w.cur ∙ (λ i. 8 * sym a i + sym b i);
  each = λ k x at. w.each k x (ap (λ (l : List Shelf). slice_get l k) (sym c) ∙ at) ∙ ap (λ (l : List ℕ). shelf_word x (get_or l k 0)) (sym d);
}

-- the word of the shelf k is written
pub words_after : (words : List ℕ) (k new : ℕ) (s t : State) → WordsShow words s → k < 8 → t.current ≡ s.current → t.current_shelf ≡ s.current_shelf
    → ((j : ℕ) → j ≢ k → (slice_get t.shelves j ≡ slice_get s.shelves j) × (get_or t.counts j 0 ≡ get_or s.counts j 0))
    → ((x : Shelf) → slice_get t.shelves k ≡ Some x → new ≡ shelf_word x (get_or t.counts k 0)) → WordsShow (set words (k + 1) new) t
words_after words k new s t w small a b others here = record {
  nine = length-set words (k + 1) new ∙ w.nine;
  cur = get_or-set_other words (k + 1) 0 new 0 (λ e. omega arith) ∙ (w.cur ∙ (λ i. 8 * sym a i + sym b i));
  each = λ j x at. dite (ℕ_discrete j k)
      (λ e. let at' : slice_get t.shelves k ≡ Some x = ap (λ n. slice_get t.shelves n) (sym e) ∙ at in let l = w.nine in
      ap (λ n. get_or (set words (k + 1) new) (n + 1) 0) e
      ∙ (get_or-set_same words (k + 1) new 0 (omega arith)
      ∙ (here x at' ∙ ap (λ n. shelf_word x (get_or t.counts n 0)) (sym e))))
      (λ ne. let o = others j ne in get_or-set_other words (k + 1) (j + 1) new 0 (λ e. ne (omega arith))
      ∙ (w.each j x (sym o.0 ∙ at) ∙ ap (λ n. shelf_word x n) (sym o.1)));
}

pub word_up : (x : Shelf) (count : ℕ) → shelf_word x count + 1 ≡ shelf_word x (count + 1)
word_up Shelf.Free count = refl
word_up _ count = omega arith

word_small : (x : Shelf) (count : ℕ) → count < 256
    → ((v : ℕ) → (x ≡ Shelf.Open v) ⊎ (x ≡ Shelf.Closing v) → v ≤ most_versions)
    → shelf_word x count + 1 < word_values
word_small Shelf.Free count small bound = omega arith
word_small (Shelf.Open v) count small bound = let b = bound v (inl refl) in omega arith
word_small (Shelf.Closing v) count small bound = let b = bound v (inr refl) in omega arith

pub few_counted : (s : State) (k : ℕ) → KeepsInvariants s → k < 8 → get_or s.counts k 0 ≤ 16
few_counted s k kept small = let c = kept.counts.each k small in let l = kept.workers.sixteen in omega (arith, count_by-le-length (is_at k) s.workers)

pub version_bound : (s : State) (k : ℕ) (x : Shelf) → KeepsInvariants s → slice_get s.shelves k ≡ Some x → (v : ℕ)
    → (x ≡ Shelf.Open v) ⊎ (x ≡ Shelf.Closing v) → v ≤ most_versions
version_bound s k x kept at v is = let r = kept.room in
    let on : version_on s.shelves k ≡ Some v =
    elim is [
      | inl a ↦ version_at s.shelves k (Shelf.Open v) (at ∙ ap (λ (y : Shelf). Some y) a)
      | inr b ↦
          version_at s.shelves k (Shelf.Closing v) (at ∙ ap (λ (y : Shelf). Some y) b)
    ] in
    let h = kept.shelves.known k v on in let q = h.1 in omega arith

-- a shelf with its word, to which one may be added
pub found_shelf : (words : List ℕ) (s : State) (k : ℕ) → KeepsInvariants s → WordsShow words s → k < 8
    → (x : Shelf) × (slice_get s.shelves k ≡ Some x) × (get_or words (k + 1) 0 ≡ shelf_word x (get_or s.counts k 0))
    × (get_or words (k + 1) 0 + 1 < word_values)
found_shelf words s k kept w small =
    let l = kept.shelves.eight in let x = at_below s.shelves k (omega arith) in let few = few_counted s k kept small in
    let is = w.each k x.0 x.1 in let top = word_small x.0 (get_or s.counts k 0) (omega arith) (version_bound s k x.0 kept x.1) in
    (x.0, x.1, is, (omega arith))

-- the word at which an event finds a shelf
pub found_at : (words : List ℕ) (c : EventHistory) → LeadsToItsState c → WordsShow words c.state → (k : ℕ) (e : Event) (d : EventHistory)
    → d.events ≡ c.events ++ e ∷ [] → k < 8 → FoundAt (known_in_full d) e k (get_or words (k + 1) 0)
found_at words c goes shown k e d added small =
    let x = found_shelf words c.state k (kept_of c goes) shown small in
    record { before = c; goes = goes; events = added; shelf = x.0; stands = x.1; is = x.2 }

one_more : (n : ℕ) → n + 1 < word_values → (n + 1) % word_values ≡ n + 1
one_more n small = omega arith

one_less : (n z : ℕ) → n ≡ z + 1 → n < word_values → (n + (word_values - 1)) % word_values ≡ z
one_less n z e small = omega arith

-- the word of a shelf whose count rises
pub word_rises : (words : List ℕ) (s : State) (k : ℕ) → KeepsInvariants s → WordsShow words s → k < 8 → (y : Shelf) → slice_get s.shelves k ≡ Some y
    → (get_or words (k + 1) 0 + 1) % word_values ≡ shelf_word y (get_or s.counts k 0 + 1)
word_rises words s k kept w small y at =
    let x = found_shelf words s k kept w small in
    one_more (get_or words (k + 1) 0) x.3 ∙ (ap (λ n. n + 1) (w.each k y at) ∙ word_up y (get_or s.counts k 0))

-- and of one whose count falls
pub word_falls : (words : List ℕ) (s : State) (k : ℕ) → KeepsInvariants s → WordsShow words s → k < 8 → 1 ≤ get_or s.counts k 0
    → (y : Shelf) → slice_get s.shelves k ≡ Some y
    → (get_or words (k + 1) 0 + (word_values - 1)) % word_values ≡ shelf_word y (get_or s.counts k 0 - 1)
word_falls words s k kept w small some_one y at =
    let x = found_shelf words s k kept w small in let count = get_or s.counts k 0 in
    let back : count - 1 + 1 ≡ count = omega arith in
    let up : shelf_word y (count - 1) + 1 ≡ shelf_word y count = word_up y (count - 1) ∙ ap (λ n. shelf_word y n) back in
    one_less (get_or words (k + 1) 0) (shelf_word y (count - 1)) (w.each k y at ∙ sym up) (let q = x.3 in omega arith)

is_open_at : (x : Shelf) (n count v : ℕ) → n ≡ shelf_word x count → count < 256 → MatchBool (is_open n v) (x ≡ Shelf.Open v) (x ≢ Shelf.Open v)
is_open_at Shelf.Free n count v e small = let a : n / 256 % 4 ≡ 0 = omega arith in rw a (λ q. cc)
is_open_at (Shelf.Closing x) n count v e small = let a : n / 256 % 4 ≡ 2 = omega arith in rw a (λ q. cc)
is_open_at (Shelf.Open x) n count v e small = let a : n / 256 % 4 ≡ 1 = omega arith in let b : n / 65536 ≡ x = omega arith in rw (a, b) (open_as x v)
  where
    open_as : (x v : ℕ) → MatchBool (x == v) (Shelf.Open x ≡ Shelf.Open v) (Shelf.Open x ≢ Shelf.Open v)
    open_as x v = dite (ℕ_discrete x v)
        (λ e. let t : (x == v) ≡ true = grind (arith, nat_tests) in rw t (ap (λ n. Shelf.Open n) e))
        (λ ne. let t : (x == v) ≡ false = grind (arith, nat_tests) in rw t (λ q. ne (cc)))

-- the word says whether the shelf is open with the version
pub word_tells : (words : List ℕ) (s : State) (k v : ℕ) → KeepsInvariants s → WordsShow words s → k < 8
    → MatchBool (is_open (get_or words (k + 1) 0) v) (IsOpen s k v) (¬ (IsOpen s k v))
word_tells words s k v kept w small =
    let x = found_shelf words s k kept w small in let few = few_counted s k kept small in
    fact x.0 (is_open (get_or words (k + 1) 0) v) x.1 (is_open_at x.0 (get_or words (k + 1) 0) (get_or s.counts k 0) v x.2 (omega arith))
  where
    fact : (x : Shelf) (b : Bool) → slice_get s.shelves k ≡ Some x → MatchBool b (x ≡ Shelf.Open v) (x ≢ Shelf.Open v)
        → MatchBool b (IsOpen s k v) (¬ (IsOpen s k v))
    fact x true at is = at ∙ ap (λ (y : Shelf). Some y) is
    fact x false at is = λ q. is (let z : Some x ≡ Some (Shelf.Open v) = sym at ∙ q in cc)
