-- Consecutive days, one day at a time.
use Rattle.std.proofs.Common.{◌≡◌, ℕ, zero, suc, ℤ, ◌+◌, ◌-◌, ◌<◌, ◌≤◌, List, [], ◌∷◌, ◌++◌, length, map, get_or, All, Contains, true, false, ◌==◌, ◌&&◌, refl}
use Rattle.std.proofs.Common.{sym, ap, ◌∙◌, subst, arith, append_assoc}
use Rattle.std.proofs.lemmas.Bool.{and_parts, eqb-true, eq-eqb, false≢true}
use Rattle.std.proofs.lemmas.List.{append-nil, length-map, map-append}
use Rattle.std.proofs.lemmas.List.Elements.{All-nil, All-push}
use Rattle.gtfs_rows.specs.declared.values.Day.{Day}
use Rattle.service_days.specs.Days.{day_after}
use Rattle.service_days.specs.Zones.{HasNoStart, IsDayStart}
use Rattle.service_days.specs.declared.zone.Zone.{Zone}
use Rattle.connections.specs.Days.{AreStarted, HaveStarts, IsFirstUnstarted, days_from}
use Rattle.connections.specs.declared.days.ServiceDay.{ServiceDay}

-- so many days are left, from a day on
pub record IsStartedTo (zone : Zone) (first : Day) (days : ℕ) (started : List ServiceDay) (day : Day) (left : ℕ) : Type 0 where
  pub days_are : map (λ d. d.day) started ++ days_from day left ≡ days_from first days
  pub starts : All (λ d. IsDayStart zone d.day d.start) started

pub started_none : (zone : Zone) (first : Day) (days : ℕ) → IsStartedTo zone first days [] first days
started_none zone first days = record { days_are = refl; starts = All-nil (λ (d : ServiceDay). IsDayStart zone d.day d.start) }

pub days_next : (day : Day) (n m : ℕ) → n ≡ m + 1 → days_from day n ≡ day ∷ days_from (day_after day) m
unfolding days_from
days_next day n m e = let s : n ≡ suc m = omega (arith, e) in rw s refl

pub started_more : (zone : Zone) (first : Day) (days : ℕ) (started : List ServiceDay) (day : Day) (start : ℤ) (left less : ℕ)
    → IsStartedTo zone first days started day left → IsDayStart zone day start → left ≡ less + 1
    → IsStartedTo zone first days (started ++ record { day = day; start = start } ∷ []) (day_after day) less
started_more zone first days started day start left less was starts e = record {
  days_are =
      ap (λ ds. ds ++ days_from (day_after day) less) (map-append (λ (d : ServiceDay). d.day) started (record { day = day; start = start } ∷ []))
      ∙ append_assoc (map (λ (d : ServiceDay). d.day) started) (day ∷ []) (days_from (day_after day) less)
      ∙ ap (λ ds. map (λ (d : ServiceDay). d.day) started ++ ds) (sym (days_next day left less e)) ∙ was.days_are;
  starts = All-push (λ (d : ServiceDay). IsDayStart zone d.day d.start) started (record { day = day; start = start }) was.starts starts;
}

pub started_all : (zone : Zone) (first : Day) (days : ℕ) (started : List ServiceDay) (day : Day) (left : ℕ) → IsStartedTo zone first days started day left
    → left ≡ 0 → AreStarted zone (days_from first days) started
unfolding days_from
started_all zone first days started day left was none = record {
  days_are = sym (append-nil (map (λ (d : ServiceDay). d.day) started)) ∙ ap (λ n. map (λ (d : ServiceDay). d.day) started ++ days_from day n) (sym none)
      ∙ was.days_are;
  starts = was.starts;
}

-- the day at an index, and who started it
index_at : (started : List ServiceDay) (k : ℕ) (day : Day) → k < length (map (λ d. d.day) started)
    → (x : ServiceDay) × (k < length started) × (x.day ≡ get_or (map (λ d. d.day) started) k day) × (get_or started k x ≡ x)
index_at [] k day lt = absurd (omega (arith, lt))
index_at (x ∷ started) zero day lt = (x, omega arith, refl, refl)
index_at (x ∷ started) (suc k) day lt =
    let rest = index_at started k day (omega (arith, lt)) in
    (rest.0, (let less = rest.1 in omega (arith, less)), rest.2, rest.3)

pub have_starts : (zone : Zone) (started : List ServiceDay) → All (λ (d : ServiceDay). IsDayStart zone d.day d.start) started
    → HaveStarts zone (map (λ (d : ServiceDay). d.day) started)
have_starts zone started starts k day lt = let at = index_at started k day lt in (
  at.0.start,
  subst (λ (x : Day). IsDayStart zone x at.0.start) at.2
      (subst (λ (x : ServiceDay). IsDayStart zone x.day x.start) at.3 (starts k at.0 at.1)),
)

pub first_missing : (zone : Zone) (first : Day) (days : ℕ) (started : List ServiceDay) (day : Day) (left less : ℕ)
    → IsStartedTo zone first days started day left → left ≡ less + 1 → HasNoStart zone day → IsFirstUnstarted zone (days_from first days) day
first_missing zone first days started day left less was e missing = record {
  earlier = map (λ (d : ServiceDay). d.day) started;
  later = days_from (day_after day) less;
  days_are = sym was.days_are ∙ ap (λ ds. map (λ (d : ServiceDay). d.day) started ++ ds) (days_next day left less e);
  started = have_starts zone started was.starts;
  missing = missing;
}

-- two days with the same year, month and day
same_day : (a b : Day) → true ≡ ((a.year == b.year) && ((a.month == b.month) && (a.day == b.day))) → a ≡ b
same_day a b e =
    let outer = and_parts (a.year == b.year) ((a.month == b.month) && (a.day == b.day)) (sym e) in
    let inner = and_parts (a.month == b.month) (a.day == b.day) outer.1 in
    let year = eqb-true a.year b.year outer.0 in
    let month = eqb-true a.month b.month inner.0 in
    let day = eqb-true a.day b.day inner.1 in
    λ i. record { year = year i; month = month i; day = day i }

tested_itself : (a : Day) → ((a.year == a.year) && ((a.month == a.month) && (a.day == a.day))) ≡ true
tested_itself a = rw (eq-eqb a.year a.year refl, eq-eqb a.month a.month refl, eq-eqb a.day a.day refl) refl

pub other_day : (a b : Day) → false ≡ ((a.year == b.year) && ((a.month == b.month) && (a.day == b.day))) → a ≡ b → ⊥
other_day a b e same = false≢true (e ∙ ap (λ (x : Day). (a.year == x.year) && ((a.month == x.month) && (a.day == x.day))) (sym same) ∙ tested_itself a)

pub found_start : (zone : Zone) (days : List ServiceDay) (i : ℕ) (d : ServiceDay) (day : Day) → i < length days → All (λ d. IsDayStart zone d.day d.start) days
    → true ≡ (((get_or days i d).day.year == day.year) && (((get_or days i d).day.month == day.month) && ((get_or days i d).day.day == day.day)))
    → IsDayStart zone day (get_or days i d).start
found_start zone days i d day lt starts e = subst (λ (x : Day). IsDayStart zone x (get_or days i d).start) (same_day (get_or days i d).day day e)
    (starts i d lt)

-- a day that is among them is at an index
index_of : (days : List ServiceDay) (day : Day) (k : ℕ) (d : ServiceDay) → k < length days
    → get_or (map (λ (d : ServiceDay). d.day) days) k day ≡ (get_or days k d).day
index_of [] day k d lt = absurd (omega (arith, lt))
index_of (x ∷ days) day zero d lt = refl
index_of (x ∷ days) day (suc k) d lt = index_of days day k d (omega (arith, lt))

pub never_missing : (days : List ServiceDay) (day : Day) (d : ServiceDay) → Contains (map (λ d. d.day) days) day
    → ((k : ℕ) (d : ServiceDay) → k < length days → (get_or days k d).day ≡ day → ⊥) → ⊥
never_missing days day d (k, lt, is) none =
    let within : k < length days = omega (arith, lt, length-map days (λ (d : ServiceDay). d.day)) in
    none k d within (sym (index_of days day k d within) ∙ is)

-- the first of the days is the first
pub first_day : (zone : Zone) (first : Day) (days : ℕ) (started : List ServiceDay) (d : ServiceDay) → AreStarted zone (days_from first days) started → 1 ≤ days
    → (0 < length started) × IsDayStart zone first (get_or started 0 d).start
first_day zone first days started d s some =
    let next : days_from first days ≡ first ∷ days_from (day_after first) (days - 1) = days_next first days (days - 1) (omega (arith, some)) in
    by started (s.days_are ∙ next) s.starts
  where
    by : (started : List ServiceDay) → map (λ (d : ServiceDay). d.day) started ≡ first ∷ days_from (day_after first) (days - 1)
        → All (λ (d : ServiceDay). IsDayStart zone d.day d.start) started
        → (0 < length started) × IsDayStart zone first (get_or started 0 d).start
    by [] e starts = absurd cc
    by (x ∷ rest) e starts =
        let is : x.day ≡ first = cc in
        (omega arith, subst (λ (day : Day). IsDayStart zone day x.start) is (starts 0 x (omega arith)))
