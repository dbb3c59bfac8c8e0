-- Lists side by side, and changes taken in one after another.
use Rattle.std.proofs.Common.{◌≡◌, ◌⊎◌, ℕ, ◌+◌, ◌≤◌, true, List, ◌++◌, Contains, Option, inl, inr, refl}
use Rattle.std.proofs.lemmas.List.Elements.{Contains-append_left, Contains-append_right, Contains-append_cases}
use Rattle.criteria.specs.Laws.{Rules, Admits}
use Rattle.bags.specs.declared.point.Point.{Point}
use Rattle.timetable.specs.declared.network.Connection.{Connection}
use Rattle.timetable.specs.declared.network.Footpath.{Footpath}
use Rattle.timetable.specs.Journeys.{start_secs}
use Rattle.timetable.specs.TimetableValue.{TimetableValue}
use Rattle.scan_state.specs.SetQuery.{SetQueryValue}
use Rattle.scan_state.specs.Values.{started}
use Rattle.scan_state.specs.Points.{Covers}
use Rattle.scan_state.specs.Matching.{Spellings}
use Rattle.scan_state.specs.Steps.{Boarding, MayBoard, Offer, TakesInBut, boardings}
use Rattle.scan_state.specs.Adding.{IsEnding, NoChange, changes_from, endings, endings_and_changes, only_if}
use Rattle.scan_state.specs.declared.final_walks.FinalWalk.{FinalWalk}
use Rattle.scan_state.proofs.Offers.{but_then, kept_on, sure}

module _ {V : Type 0} (rules : Rules V) where
  pub covers_front : (xs ys : List (Point V)) (departure : ℕ) (v : V) → Covers rules xs departure v → Covers rules (xs ++ ys) departure v
  covers_front xs ys departure v c = (c.0, Contains-append_left xs ys c.0 c.1, c.2, c.3)

  pub covers_rear : (xs ys : List (Point V)) (departure : ℕ) (v : V) → Covers rules ys departure v → Covers rules (xs ++ ys) departure v
  covers_rear xs ys departure v c = (c.0, Contains-append_right xs ys c.0 c.1, c.2, c.3)

  pub covers_cases : (xs ys : List (Point V)) (departure : ℕ) (v : V) → Covers rules (xs ++ ys) departure v
      → Covers rules xs departure v ⊎ Covers rules ys departure v
  covers_cases xs ys departure v c = elim (Contains-append_cases xs ys c.0 c.1) [
    | inl is ↦ inl (c.0, is, c.2, c.3)
    | inr is ↦ inr (c.0, is, c.2, c.3)
  ]

  -- the first of two lists takes an offer in
  pub front_takes : {A : Type 0} {Excused : A → Type 0} {offer : Offer A V} {old new : List (Point V)} (rest : List (Point V))
      → TakesInBut rules Excused offer old new → TakesInBut rules Excused offer (old ++ rest) (new ++ rest)
  front_takes {offer = offer} {old = old} {new = new} rest takes = record {
    only = λ p h. elim (Contains-append_cases new rest p h) [
      | inl is ↦ elim (takes.only p is) [ inl was ↦ inl (Contains-append_left old rest p was) | inr o ↦ inr o ]
      | inr is ↦ inl (Contains-append_right old rest p is)
    ];
    kept = λ d v a c. elim (covers_cases old rest d v c) [
      | inl first ↦ covers_front new rest d v (takes.kept d v a first)
      | inr second ↦ covers_rear new rest d v second
    ];
    covered = λ way opened. elim (takes.covered way opened) [
      | inl c ↦ inl (covers_front new rest (offer.departure way) (offer.value way) c)
      | inr excused ↦ inr excused
    ];
  }

  -- the second does
  pub rear_takes : {A : Type 0} {Excused : A → Type 0} {offer : Offer A V} (first : List (Point V)) {old new : List (Point V)}
      → TakesInBut rules Excused offer old new → TakesInBut rules Excused offer (first ++ old) (first ++ new)
  rear_takes {offer = offer} first {old = old} {new = new} takes = record {
    only = λ p h. elim (Contains-append_cases first new p h) [
      | inl is ↦ inl (Contains-append_left first old p is)
      | inr is ↦ elim (takes.only p is) [ inl was ↦ inl (Contains-append_right first old p was) | inr o ↦ inr o ]
    ];
    kept = λ d v a c. elim (covers_cases first old d v c) [
      | inl front ↦ covers_front first new d v front
      | inr rear ↦ covers_rear first new d v (takes.kept d v a rear)
    ];
    covered = λ way opened. elim (takes.covered way opened) [
      | inl c ↦ inl (covers_rear first new (offer.departure way) (offer.value way) c)
      | inr excused ↦ inr excused
    ];
  }

  -- changes to the points of two lists
  pub changes_both : (Excused : Point V → Type 0) (tags : Spellings) (i time : ℕ) (xs ys : List (Point V)) {old mid new : List (Point V)}
      → ((p : Point V) → Contains xs p → Admits rules p.value) → TakesInBut rules Excused (changes_from tags i time xs) old mid
      → TakesInBut rules Excused (changes_from tags i time ys) mid new → TakesInBut rules Excused (changes_from tags i time (xs ++ ys)) old new
  changes_both Excused tags i time xs ys admitted first second =
      but_then rules
      (λ p opened. record { there = p; is_open = (Contains-append_left xs ys p opened.0, opened.1); departs = refl; worth = refl; fits = λ tag h. h })
      (λ p opened. record { there = p; is_open = (Contains-append_right xs ys p opened.0, opened.1); departs = refl; worth = refl; fits = λ tag h. h })
      (λ p opened. elim (Contains-append_cases xs ys p opened.0) [
        | inl is ↦ kept_on rules second (admitted p is) (first.covered p (is, opened.1))
        | inr is ↦ second.covered p (is, opened.1)
      ]) first second

-- each way to leave is covered, or excused
covered_either : {V : Type 0} (rules : Rules V) (q : SetQueryValue) (place : ℕ) (c : Connection) (way : Option FinalWalk) (Excused : V → Type 0)
    (tags : Spellings) (bag new : List (Point V))
    → ((walk : Option Footpath) → IsEnding c q way walk → Covers rules new 0 (started rules walk (rules.arrive (c.arr + start_secs walk))))
    → ((p : Point V) → Contains bag p × (c.arr ≤ p.departure) → Covers rules new 0 p.value ⊎ Excused p.value)
    → (w : Option Footpath ⊎ Point V) → (only_if (c.alight ≡ true) (endings_and_changes rules tags place c q way bag)).is_open w
    → Covers rules new ((only_if (c.alight ≡ true) (endings_and_changes rules tags place c q way bag)).departure w)
    ((only_if (c.alight ≡ true) (endings_and_changes rules tags place c q way bag)).value w) ⊎ NoChange Excused w
covered_either rules q place c way Excused tags bag new ends changes (inl walk) opened = inl (ends walk opened.1)
covered_either rules q place c way Excused tags bag new ends changes (inr p) opened = changes p opened.1

-- to end, and then to change
pub ends_and_changes : {V : Type 0} (rules : Rules V) (q : SetQueryValue) (place : ℕ) (c : Connection) (way : Option FinalWalk) (Excused : V → Type 0)
    (tags : Spellings) (bag : List (Point V)) {old mid new : List (Point V)}
    → ((walk : Option Footpath) → IsEnding c q way walk → Admits rules (started rules walk (rules.arrive (c.arr + start_secs walk))))
    → c.alight ≡ true → TakesInBut rules (λ _. ⊥) (endings rules tags place c q way) old mid
    → TakesInBut rules (λ p. Excused p.value) (changes_from tags place c.arr bag) mid new
    → TakesInBut rules (NoChange Excused) (only_if (c.alight ≡ true) (endings_and_changes rules tags place c q way bag)) old new
ends_and_changes rules q place c way Excused tags bag {new = new} admits alights first second =
    but_then rules (λ w opened. record { there = inl w; is_open = (alights, opened); departs = refl; worth = refl; fits = λ tag h. h })
    (λ p opened. record { there = inr p; is_open = (alights, opened); departs = refl; worth = refl; fits = λ tag h. h })
    (covered_either rules q place c way Excused tags bag new
    (λ walk opened. second.kept 0 _ (admits walk opened) (sure (first.covered walk opened))) second.covered) first second

-- one may board as before with a label that is there
pub may : {V : Type 0} (t : TimetableValue) (i stop : ℕ) (way : Boarding V) (labels others : List (Point V)) → MayBoard t i stop others way
    → Contains labels way.label → MayBoard t i stop labels way
may t i stop way labels others m is =
    record { boards = m.boards; is_footpath = m.is_footpath; leaves = m.leaves; leads = m.leads; fits = m.fits; is_label = is }

-- boardings with the labels of two lists
pub boardings_both : {V : Type 0} (rules : Rules V) (t : TimetableValue) (Excused : V → Type 0) (tags : Spellings) (i stop : ℕ)
    (xs ys : List (Point V)) {old mid new : List (Point V)}
    → ((way : Boarding V) → MayBoard t i stop xs way → Admits rules (rules.walk way.walk.secs (rules.ride way.label.value)))
    → TakesInBut rules (λ way. Excused way.label.value) (boardings rules t tags i stop xs) old mid
    → TakesInBut rules (λ way. Excused way.label.value) (boardings rules t tags i stop ys) mid new
    → TakesInBut rules (λ way. Excused way.label.value) (boardings rules t tags i stop (xs ++ ys)) old new
boardings_both rules t Excused tags i stop xs ys admits first second =
    but_then rules
    (λ way m. record {
      there = way;
      is_open = may t i stop way (xs ++ ys) xs m (Contains-append_left xs ys way.label m.is_label);
      departs = refl;
      worth = refl;
      fits = λ tag h. h;
    })
    (λ way m. record {
      there = way;
      is_open = may t i stop way (xs ++ ys) ys m (Contains-append_right xs ys way.label m.is_label);
      departs = refl;
      worth = refl;
      fits = λ tag h. h;
    })
    (λ way m. elim (Contains-append_cases xs ys way.label m.is_label) [
      | inl is ↦ let n = may t i stop way xs (xs ++ ys) m is in kept_on rules second (admits way n) (first.covered way n)
      | inr is ↦ second.covered way (may t i stop way ys (xs ++ ys) m is)
    ]) first second
