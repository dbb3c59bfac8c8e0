-- Insertions: entries put before a list.
use Rattle.std.proofs.Common.{◌≡◌, ◌⊎◌, ℕ, suc, ◌<◌, ◌≤◌, List, [], ◌∷◌, ◌++◌, length, map, Contains, inl, inr}
use Rattle.std.proofs.Common.{slice_get, Some, option_map, refl, sym, ◌∙◌, ap, subst, arith}
use Rattle.std.proofs.lemmas.Bool.{cases_lt}
use Rattle.std.proofs.lemmas.List.Elements.{Contains-append_left, Contains-push}
use Rattle.std.proofs.lemmas.Option.{slice_get_within, slice_get-map, same_Some}
use Rattle.reasoning.specs.Lists.{Extends}
use Rattle.reasoning.proofs.ListLemmas.{not_in_nil, contains_first, contains_rest, contains_cases, extends_none, extends_on, extends_one}
use Rattle.reasoning.proofs.ListLemmas.{slice_get-append, slice_get-last}
use Rattle.criteria.specs.Laws.{IsTime}
use Rattle.bags.specs.declared.point.Point.{Point}
use Rattle.fronts.specs.declared.entry.Step.{Step}
use Rattle.arrival_lists.specs.Lists.{AreAllPassed, AreEntries, AreMoreLists, AreSorted, HasFirst, HasTaken, IsEmptyAlone, IsFirstOf, IsJoined, IsLate, IsPut}
use Rattle.arrival_lists.specs.Lists.{MayJoin, MayPut, Precedes, Reaches, entries_of, list_points, never, passed_of, point_before, point_of}
use Rattle.arrival_lists.specs.Lists.{points_from, steps_of}
use Rattle.arrival_lists.specs.declared.arrival_lists.ArrivalLists.{ArrivalLists}
use Rattle.arrival_lists.specs.declared.entry.Entry.{Entry}
use Rattle.arrival_lists.specs.declared.entry.FirstPoint.{FirstPoint}
use Rattle.arrival_lists.proofs.Entries.{first_in, low, none_at_end, put_entries, put_points}
use Rattle.arrival_lists.proofs.Searches.{pushed_cases, sorted_pop}

-- there is only entry 0
pub empty_alone : (lists : ArrivalLists) (e : Entry) → entries_of lists ≡ e ∷ [] → e.departure ≡ never → e.time ≡ never → e.tag ≡ 0 → IsEmptyAlone lists
empty_alone lists e is departs arrives tag =
    let long = ap length is in
    let sound : AreEntries (entries_of lists) = record {
      some = omega (arith, long);
      end = λ x at.
          let same = same_Some e x (sym (ap (λ xs. slice_get xs 0) is) ∙ at) in
          (subst (λ (y : Entry). y.departure ≡ never) same departs, subst (λ (y : Entry). y.time ≡ never) same arrives);
      back = λ m x at. let in_range = slice_get_within (entries_of lists) (suc m) x at in absurd (omega (arith, in_range, long));
      rises = λ m x f at next. let in_range = slice_get_within (entries_of lists) (suc m) x at in absurd (omega (arith, in_range, long));
      times = λ m x at. let in_range = slice_get_within (entries_of lists) (suc m) x at in absurd (omega (arith, in_range, long));
    } in
    record {
      alone = long;
      sound = sound;
      empty = none_at_end (entries_of lists) sound;
      first = record {
        entry = e;
        at = ap (λ xs. slice_get xs 0) is;
        is = sym (ap (λ n. record { time = n; departure = e.departure; tag = e.tag; head = 0 }) arrives
            ∙ ap (λ n. record { time = never; departure = n; tag = e.tag; head = 0 }) departs
            ∙ ap (λ n. record { time = never; departure = never; tag = n; head = 0 }) tag);
      };
    }

-- an entry is put before a list
pub is_put : (old new : ArrivalLists) (e : Entry) → MayPut old e → entries_of new ≡ entries_of old ++ e ∷ [] → (head : ℕ) → head ≡ length (entries_of old)
    → IsPut old e new (record { time = e.time; departure = e.departure; tag = e.tag; head = head })
is_put old new e may added head head_is = record {
  sound = put_entries (entries_of old) (entries_of new) may.sound e added may.within may.precedes may.time;
  added = added;
  is_first = ap (λ n. record { time = e.time; departure = e.departure; tag = e.tag; head = n }) head_is;
  points = ap (points_from (entries_of new)) head_is
      ∙ put_points (entries_of old) (entries_of new) may.sound e added may.within may.precedes may.time;
}

pub put_first : (old new : ArrivalLists) (e : Entry) (first : FirstPoint) → IsPut old e new first → IsFirstOf new first.head first
put_first old new e first put =
    let head_is : first.head ≡ length (entries_of old) = ap (λ (f : FirstPoint). f.head) put.is_first in
    record {
      entry = e;
      at = ap (slice_get (entries_of new)) head_is ∙ ap (λ xs. slice_get xs (length (entries_of old))) put.added ∙ slice_get-last (entries_of old) e;
      is = put.is_first ∙ sym (ap (λ n. record { time = e.time; departure = e.departure; tag = e.tag; head = n }) head_is);
    }

pub more_none : (lists : ArrivalLists) → AreEntries (entries_of lists) → AreMoreLists lists lists
more_none lists sound = record { sound = sound; entries = extends_none (entries_of lists) }

-- with the same entries
pub more_same : (old now new : ArrivalLists) → AreMoreLists old now → entries_of new ≡ entries_of now → AreMoreLists old new
more_same old now new more same = record {
  sound = subst AreEntries (sym same) more.sound;
  entries = subst (Extends (entries_of old)) (sym same) more.entries;
}

-- the step of an entry
step_at : (entries : List Entry) (m : ℕ) (e : Entry) → slice_get entries m ≡ Some e → slice_get (map (λ (x : Entry). x.step) entries) m ≡ Some e.step
step_at entries m e at = slice_get-map (λ (x : Entry). x.step) entries m ∙ ap (option_map (λ (x : Entry). x.step)) at

module _ (old : ArrivalLists) (first : FirstPoint) (has : HasFirst old first) (departure time : ℕ) (step : Step) (in_time : IsTime time) where
  -- a point of the list departs no earlier and arrives no later
  pub taken_already : (m : ℕ) (e : Entry) → slice_get (entries_of old) m ≡ Some e
      → ((p : Point ℕ) → Contains (points_from (entries_of old) m) p → Contains (list_points old first.head) p)
      → departure ≤ e.departure → e.time ≤ time → HasTaken departure time step old first.head old first
  taken_already m e at only late soon = record {
    is_first = has.is;
    takes = record {
      only = λ p h. inl h;
      kept = λ d t r. r;
      covered = (point_of e, only (point_of e) (first_in (entries_of old) has.sound m e at (omega (arith, soon, in_time))), late, soon);
    };
  }

  -- the same of the first
  pub taken_by_first : departure ≤ first.departure → first.time ≤ time → HasTaken departure time step old first.head old first
  taken_by_first late soon =
      let d = ap (λ (f : FirstPoint). f.departure) has.is.is in
      let t = ap (λ (f : FirstPoint). f.time) has.is.is in
      taken_already first.head has.is.entry has.is.at (λ p h. h) (omega (arith, late, d)) (omega (arith, soon, t))

  -- a point of the list that departs no earlier arrives no earlier than the first late entry
  pub not_reached : (m : ℕ) (e : Entry) → slice_get (entries_of old) m ≡ Some e
      → ((p : Point ℕ) → Contains (list_points old first.head) p → departure ≤ p.departure → Contains (points_from (entries_of old) m) p)
      → time < e.time → Reaches (list_points old first.head) departure time → ⊥
  not_reached m e at all news r =
      let least = (low (entries_of old) has.sound m e at r.0 (all r.0 r.1 r.2)).1 in
      let soon = r.3 in
      omega (arith, least, soon, news)

  -- the same of the first
  pub news_by_first : time < first.time → Reaches (list_points old first.head) departure time → ⊥
  news_by_first news r =
      let t = ap (λ (f : FirstPoint). f.time) has.is.is in
      not_reached first.head has.is.entry has.is.at (λ p h late. h) (omega (arith, news, t)) r

  -- the list begins later: the point may be put before it
  pub may_ahead : departure ≤ first.departure → time < first.time → MayPut old (point_before departure time step first.head (length (entries_of old)))
  may_ahead late news =
      let d = ap (λ (f : FirstPoint). f.departure) has.is.is in
      let t = ap (λ (f : FirstPoint). f.time) has.is.is in
      record {
        sound = has.sound;
        within = slice_get_within (entries_of old) first.head has.is.entry has.is.at;
        precedes = λ f at.
            subst (λ (x : Entry). Precedes (point_before departure time step first.head (length (entries_of old))) x)
            (same_Some has.is.entry f (sym has.is.at ∙ at)) (omega (arith, late, d), omega (arith, news, t));
        time = in_time;
      }

  -- and is then taken in
  pub taken_ahead : (new : ArrivalLists) (now : FirstPoint) → IsPut old (point_before departure time step first.head (length (entries_of old))) new now
      → HasTaken departure time step old first.head new now
  taken_ahead new now put =
      let e : Entry = point_before departure time step first.head (length (entries_of old)) in
      let is_first = put_first old new e now put in
      let at_last = ap (λ xs. slice_get xs (length (entries_of old))) put.added ∙ slice_get-last (entries_of old) e in
      record {
        is_first = is_first;
        takes = record {
          only = λ p h. elim (contains_cases p (point_of e) (list_points old first.head) (subst (λ ps. Contains ps p) put.points h)) [
            | inl same ↦ inr (subst (λ (q : Point ℕ). (q.departure ≡ departure) × (q.value ≡ time) × (slice_get (steps_of new) q.tag ≡ Some step)) same
                (refl, refl, step_at (entries_of new) (length (entries_of old)) e at_last))
            | inr before ↦ inl before
          ];
          kept = λ d t r. (
            r.0,
            subst (λ ps. Contains ps r.0) (sym put.points) (contains_rest r.0 (point_of e) (list_points old first.head) r.1),
            r.2,
            r.3,
          );
          covered = (
            point_of e,
            subst (λ ps. Contains ps (point_of e)) (sym put.points) (contains_first (point_of e) (list_points old first.head)),
            omega arith,
            omega arith,
          );
        };
      }

  -- the list begins earlier: after the entries that come before the point, it is put before the rest, and these before it
  module _ (after : ℕ) (late : IsLate (entries_of old) first.head departure after) (next : Entry) (at : slice_get (entries_of old) after ≡ Some next)
      (news : time < next.time) (mid : ArrivalLists) (same : entries_of mid ≡ entries_of old)
      (passed : AreAllPassed (entries_of old) first.head departure time (passed_of mid)) where
    abbrev point : Entry
    point = point_before departure time step after (length (entries_of mid))

    pub may_between : MayPut mid point
    may_between = record {
      sound = subst AreEntries (sym same) has.sound;
      within = subst (λ es. after < length es) (sym same) late.within;
      precedes = λ f there.
          let same_next = same_Some next f (sym at ∙ sym (ap (λ es. slice_get es after) same) ∙ there) in
          subst (λ (x : Entry). Precedes point x) same_next (late.late next at, omega (arith, news));
      time = in_time;
    }

    module _ (two : ArrivalLists) (put_at : FirstPoint) (put : IsPut mid point two put_at) (still : passed_of two ≡ passed_of mid) where
      pub may_join : MayJoin two put_at
      may_join =
          let d = ap (λ (f : FirstPoint). f.departure) put.is_first in
          let t = ap (λ (f : FirstPoint). f.time) put.is_first in
          record {
            sound = put.sound;
            is_first = put_first mid two point put_at put;
            sorted = subst AreSorted (sym still) passed.sorted;
            before = λ e h.
                let early = passed.before e (subst (λ es. Contains es e) still h) in
                let early_0 = early.0 in
                let early_1 = early.1 in
                (omega (arith, early_0, d), omega (arith, early_1, t));
            times = λ e h.
                (low (entries_of old) has.sound first.head has.is.entry has.is.at (point_of e)
                (passed.listed e (subst (λ es. Contains es e) still h))).2;
          }

      -- what the point's list has
      points_are : list_points two put_at.head ≡ point_of point ∷ points_from (entries_of old) after
      points_are = put.points ∙ ap (λ es. point_of point ∷ points_from es after) same

      pub taken_between : (new : ArrivalLists) (now : FirstPoint) → AreMoreLists two new → IsJoined two put_at.head new now
          → HasTaken departure time step old first.head new now
      taken_between new now more joined =
          let at_last = ap (λ xs. slice_get xs (length (entries_of mid))) put.added ∙ slice_get-last (entries_of mid) point in
          let at_new : slice_get (entries_of new) (length (entries_of mid)) ≡ Some point =
          ap (λ xs. slice_get xs (length (entries_of mid))) more.entries.1
          ∙ slice_get-append (entries_of two) more.entries.0 (length (entries_of mid)) point at_last in
          let here : Contains (list_points new now.head) (point_of point) =
          joined.kept (point_of point) (subst (λ ps. Contains ps (point_of point)) (sym points_are)
          (contains_first (point_of point) (points_from (entries_of old) after))) in
          record {
            is_first = joined.is_first;
            takes = record {
              only = λ p h. elim (joined.only p h) [
                | inr copied ↦
                    inl (subst (Contains (list_points old first.head)) copied.2 (passed.listed copied.0 (subst (λ es. Contains es copied.0) still copied.1)))
                | inl there ↦ elim (contains_cases p (point_of point) (points_from (entries_of old) after) (subst (λ ps. Contains ps p) points_are there)) [
                  | inl is ↦ inr (subst (λ (q : Point ℕ). (q.departure ≡ departure) × (q.value ≡ time) × (slice_get (steps_of new) q.tag ≡ Some step)) is
                      (refl, refl, step_at (entries_of new) (length (entries_of mid)) point at_new))
                  | inr rest ↦ inl (late.only p rest)
                ]
              ];
              kept = λ d t r.
                  let p = r.0 in
                  let r_2 = r.2 in
                  let r_3 = r.3 in
                  elim (cases_lt p.departure departure) [
                    | inr not_early ↦ (
                      p,
                      joined.kept p (subst (λ ps. Contains ps p) (sym points_are)
                          (contains_rest p (point_of point) (points_from (entries_of old) after) (late.all p r.1 not_early))),
                      r.2,
                      r.3,
                    )
                    | inl early ↦ elim (cases_lt p.value time) [
                      | inl soon ↦
                          let e = passed.all p r.1 early soon in
                          (p, subst (Contains (list_points new now.head)) e.2 (joined.each e.0 (subst (λ es. Contains es e.0) (sym still) e.1)), r.2, r.3)
                      | inr not_soon ↦ (point_of point, here, omega (arith, r_2, early), omega (arith, r_3, not_soon))
                    ]
                  ];
              covered = (point_of point, here, omega arith, omega arith);
            };
          }

-- entries noted are put before a list, the last first
pub record Joins (old : ArrivalLists) (first : FirstPoint) (now : ArrivalLists) (new : FirstPoint) : Type 0 where
  pub more : AreMoreLists old now
  pub is_first : IsFirstOf now new.head new
  pub sorted : AreSorted (passed_of now)
  pub before : (e : Entry) → Contains (passed_of now) e → (e.departure ≤ new.departure) × (e.time ≤ new.time)
  pub still : (e : Entry) → Contains (passed_of now) e → Contains (passed_of old) e
  pub only : (p : Point ℕ) → Contains (list_points now new.head) p
      → Contains (list_points old first.head) p ⊎ ((e : Entry) × Contains (passed_of old) e × (point_of e ≡ p))
  pub kept : (p : Point ℕ) → Contains (list_points old first.head) p → Contains (list_points now new.head) p
  pub each : (e : Entry) → Contains (passed_of old) e → Contains (passed_of now) e ⊎ Contains (list_points now new.head) (point_of e)

module _ (old : ArrivalLists) (first : FirstPoint) (may : MayJoin old first) where
  pub joins_none : Joins old first old first
  joins_none = record {
    more = more_none old may.sound;
    is_first = may.is_first;
    sorted = may.sorted;
    before = may.before;
    still = λ e h. h;
    only = λ p h. inl h;
    kept = λ p h. h;
    each = λ e h. inl h;
  }

  -- the last of those that are left
  module _ (now : ArrivalLists) (new : FirstPoint) (joins : Joins old first now new) (mid : ArrivalLists) (same : entries_of mid ≡ entries_of now)
      (e : Entry) (popped : passed_of now ≡ passed_of mid ++ e ∷ []) where
    abbrev again : Entry
    again = record { departure = e.departure; time = e.time; next = new.head; tag = e.tag; step = e.step }

    is_left : Contains (passed_of now) e
    is_left = subst (λ es. Contains es e) (sym popped) (Contains-push (passed_of mid) e)

    pub may_again : MayPut mid again
    may_again =
        let fits = joins.before e is_left in
        let fits_0 = fits.0 in
        let fits_1 = fits.1 in
        let d = ap (λ (f : FirstPoint). f.departure) joins.is_first.is in
        let t = ap (λ (f : FirstPoint). f.time) joins.is_first.is in
        record {
          sound = subst AreEntries (sym same) joins.more.sound;
          within = subst (λ es. new.head < length es) (sym same) (slice_get_within (entries_of now) new.head joins.is_first.entry joins.is_first.at);
          precedes = λ f there.
              let same_next = same_Some joins.is_first.entry f (sym joins.is_first.at ∙ sym (ap (λ es. slice_get es new.head) same) ∙ there) in
              subst (λ (x : Entry). Precedes again x) same_next (omega (arith, fits_0, d), omega (arith, fits_1, t));
          time = may.times e (joins.still e is_left);
        }

    pub joins_on : (last : ArrivalLists) (head : FirstPoint) → IsPut mid again last head → passed_of last ≡ passed_of mid → Joins old first last head
    joins_on last head put stays =
        let points : list_points last head.head ≡ point_of e ∷ list_points now new.head =
        put.points ∙ ap (λ es. point_of e ∷ points_from es new.head) same in
        let pop = sorted_pop (passed_of now) (passed_of mid) e popped joins.sorted in
        let d = ap (λ (f : FirstPoint). f.departure) put.is_first in
        let t = ap (λ (f : FirstPoint). f.time) put.is_first in
        let grown : Extends (entries_of now) (entries_of last) =
        subst (λ es. Extends es (entries_of last)) same (extends_one (entries_of mid) (entries_of last) again put.added) in
        record {
          more = record { sound = put.sound; entries = extends_on (entries_of old) (entries_of now) (entries_of last) joins.more.entries grown };
          is_first = put_first mid last again head put;
          sorted = subst AreSorted (sym stays) pop.0;
          before = λ x h.
              let fits = pop.1 x (subst (λ es. Contains es x) stays h) in
              let fits_0 = fits.0 in
              let fits_1 = fits.1 in
              (omega (arith, fits_0, d), omega (arith, fits_1, t));
          still = λ x h.
              joins.still x (subst (λ es. Contains es x) (sym popped) (Contains-append_left (passed_of mid) (e ∷ []) x (subst (λ es. Contains es x) stays h)));
          only = λ p h. elim (contains_cases p (point_of e) (list_points now new.head) (subst (λ ps. Contains ps p) points h)) [
            | inl is ↦ inr (e, joins.still e is_left, is)
            | inr before ↦ joins.only p before
          ];
          kept = λ p h. subst (λ ps. Contains ps p) (sym points) (contains_rest p (point_of e) (list_points now new.head) (joins.kept p h));
          each = λ x h. elim (joins.each x h) [
            | inr done ↦ inr (subst (λ ps. Contains ps (point_of x)) (sym points) (contains_rest (point_of x) (point_of e) (list_points now new.head) done))
            | inl left ↦ elim (pushed_cases (passed_of mid) (passed_of now) e x popped left) [
              | inl earlier ↦ inl (subst (λ es. Contains es x) (sym stays) earlier)
              | inr is ↦ inr (subst (λ ps. Contains ps (point_of x)) (sym points)
                  (subst (λ y. Contains (point_of e ∷ list_points now new.head) (point_of y)) (sym is)
                  (contains_first (point_of e) (list_points now new.head))))
            ]
          ];
        }

  -- none is left
  pub joined : (now last : ArrivalLists) (new : FirstPoint) → Joins old first now new → entries_of last ≡ entries_of now → passed_of now ≡ []
      → IsJoined old first.head last new
  joined now last new joins same none = record {
    is_first = record { entry = joins.is_first.entry; at = ap (λ es. slice_get es new.head) same ∙ joins.is_first.at; is = joins.is_first.is };
    only = λ p h. joins.only p (subst (λ es. Contains (points_from es new.head) p) same h);
    kept = λ p h. subst (λ es. Contains (points_from es new.head) p) (sym same) (joins.kept p h);
    each = λ e h. elim (joins.each e h) [
      | inl left ↦ absurd (not_in_nil e (subst (λ es. Contains es e) none left))
      | inr done ↦ subst (λ es. Contains (points_from es new.head) (point_of e)) (sym same) done
    ];
  }
