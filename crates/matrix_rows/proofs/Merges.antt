-- The best of the answers from several stops.
use Rattle.std.proofs.Common.{◌≡◌, ◌⊎◌, ◌≤◌, ◌∙◌, ℕ, Bool, true, false, nat_le, List, [], ◌∷◌, ◌++◌, Contains, AllPairs}
use Rattle.std.proofs.Common.{◌<◌, ◌+◌, ap, arith, drop, get_or, inl, inr, length, refl, subst, sym, take}
use Rattle.std.proofs.lemmas.Bool.{and_parts, cases_Bool, leb-true, true≢false}
use Rattle.std.proofs.lemmas.List.{take-append-drop, take_more}
use Rattle.std.proofs.lemmas.List.Elements.{Contains-append_left, Contains-append_right, Contains-push_cases}
use Rattle.reasoning.proofs.ListLemmas.{contains_cases, contains_first, not_in_nil}
use Rattle.criteria.specs.Laws.{Admits, Laws, NoWorse, Rules}
use Rattle.bags.specs.Dominance.{Dominates, Inserted, IsBag, Stands, dominates}
use Rattle.bags.specs.declared.point.Point.{Point}
use Rattle.timetable.specs.TimetableValue.{TimetableValue}
use Rattle.scan_state.specs.SetQuery.{SetQueryValue, IsAnswerBetween, IsPointBetween}
use Rattle.scan_state.specs.SetQuery.{CanScan}
use Rattle.scan_state.specs.Origins.{from_stop}
use Rattle.scan_state.specs.Points.{Before, Covers}
use Rattle.scan_state.proofs.Admitted.{point_admits}
use Rattle.station_answers.proofs.SetLemmas.{found_is_answer}
use Rattle.matrix_rows.specs.Merging.{TakesIn}
use Rattle.matrix_rows.specs.Tables.{from_stops}

dominated : {V : Type 0} (rules : Rules V) (p q : Point V) → Dominates rules p q → (q.departure ≤ p.departure) × NoWorse rules p.value q.value
dominated rules p q d =
    let h = and_parts (nat_le q.departure p.departure) (rules.no_worse p.value q.value) d in
    (leb-true q.departure p.departure h.0, h.1)

-- what an insertion does
record TakesPoint {V : Type 0} (rules : Rules V) (p : Point V) (old new : List (Point V)) : Type 0 where
  only : (q : Point V) → Contains new q → Contains old q ⊎ (q ≡ p)
  kept : (departure : ℕ) (v : V) → Admits rules v → Covers rules old departure v → Covers rules new departure v
  taken : Covers rules new p.departure p.value

inserted_takes : {V : Type 0} (rules : Rules V) → Laws rules → (old new : List (Point V)) (p : Point V) (stands : Bool)
    → IsBag rules old → Admits rules p.value → Stands rules old p stands → Inserted rules old p stands new
    → TakesPoint rules p old new
inserted_takes {V} rules laws old new p true bag admitted none is = record {
  only = λ q h. elim ((is q).0 h) [ inl e ↦ inr e | inr was ↦ inl was.0 ];
  kept = λ d v a c. elim (cases_Bool (dominates rules p c.0)) [
    | inl dom ↦
        let h = dominated rules p c.0 dom in
        let late : d ≤ p.departure = omega (arith, c.2, h.0) in
        (p, (is p).1 (inl refl), late, laws.transitive p.value c.0.value v admitted (bag.admitted c.0 c.1) a h.1 c.3)
    | inr free ↦ (c.0, (is c.0).1 (inr (c.1, λ dom. true≢false (sym dom ∙ free))), c.2, c.3)
  ];
  taken = (p, (is p).1 (inl refl), omega arith, laws.reflexive p.value admitted);
}
inserted_takes {V} rules laws old new p false bag admitted above is = record {
  only = λ q h. inl (subst (λ xs. Contains xs q) is h);
  kept = λ d v a c. subst (λ xs. Covers rules xs d v) (sym is) c;
  taken =
      let h = dominated rules above.0 p above.2 in
      subst (λ xs. Covers rules xs p.departure p.value) (sym is) (above.0, above.1, h.0, h.1);
}

pub takes_none : {V : Type 0} (rules : Rules V) (old : List (Point V)) → TakesIn rules [] old old
takes_none rules old = record {
  only = λ p h. inl h;
  kept = λ d v a c. c;
  each = λ q h. absurd (not_in_nil q h);
}

-- one point more
pub takes_one : {V : Type 0} (rules : Rules V) → Laws rules → (points : List (Point V)) (p : Point V) (stands : Bool)
    (was old new : List (Point V)) → IsBag rules old → ((q : Point V) → Contains (points ++ p ∷ []) q → Admits rules q.value)
    → Stands rules old p stands → Inserted rules old p stands new → TakesIn rules points was old → TakesIn rules (points ++ p ∷ []) was new
takes_one {V} rules laws points p stands was old new bag admits is_stands is_inserted before =
    let last : Contains (points ++ p ∷ []) p = Contains-append_right points (p ∷ []) p (contains_first p []) in
    let takes = inserted_takes rules laws old new p stands bag (admits p last) is_stands is_inserted in
    record {
      only = λ q h. elim (takes.only q h) [
        | inl in_old ↦ elim (before.only q in_old) [
          | inl in_was ↦ inl in_was
          | inr of ↦ inr (Contains-append_left points (p ∷ []) q of)
        ]
        | inr same ↦ inr (subst (λ (x : Point V). Contains (points ++ p ∷ []) x) (sym same) last)
      ];
      kept = λ d v adm c. takes.kept d v adm (before.kept d v adm c);
      each = λ q h. elim (Contains-push_cases points p q h) [
        | inl earlier ↦ takes.kept q.departure q.value (admits q h) (before.each q earlier)
        | inr same ↦ subst (λ (x : Point V). Covers rules new x.departure x.value) same takes.taken
      ];
    }

-- what is among the first is in the list
pub in_front : {X : Type 0} (xs : List X) (n : ℕ) (x : X) → Contains (take n xs) x → Contains xs x
in_front {X} xs n x h =
    subst (λ (ys : List X). Contains ys x) (take-append-drop n xs) (Contains-append_left (take n xs) (drop n xs) x h)

-- the next point of a list
pub taken_more : {V : Type 0} (rules : Rules V) → Laws rules → (points : List (Point V)) (index : ℕ) (p : Point V) (stands : Bool)
    (was old new : List (Point V)) → index < length points → p ≡ get_or points index p → IsBag rules old
    → ((q : Point V) → Contains points q → Admits rules q.value) → Stands rules old p stands → Inserted rules old p stands new
    → TakesIn rules (take index points) was old → TakesIn rules (take (index + 1) points) was new
taken_more {V} rules laws points index p stands was old new less is bag admits is_stands is_inserted before =
    let more : take index points ++ p ∷ [] ≡ take (index + 1) points =
    ap (λ (x : Point V). take index points ++ x ∷ []) is ∙ sym (take_more points index p less) in
    subst (λ (ps : List (Point V)). TakesIn rules ps was new) more
    (takes_one rules laws (take index points) p stands was old new bag
    (λ q h. admits q (in_front points (index + 1) q (subst (λ (ps : List (Point V)). Contains ps q) more h)))
    is_stands is_inserted before)

-- a bag has points of the answers from some stops, and covers each of them
pub record AreMerged {V : Type 0} (rules : Rules V) (listed : ℕ → List (Point V)) (stops : List ℕ) (bag : List (Point V)) : Type 0 where
  pub only : (p : Point V) → Contains bag p → (stop : ℕ) × Contains stops stop × Contains (listed stop) p
  pub covers : (stop : ℕ) → Contains stops stop → (p : Point V) → Contains (listed stop) p → Covers rules bag p.departure p.value

pub none_merged : {V : Type 0} (rules : Rules V) (listed : ℕ → List (Point V)) (bag : List (Point V)) → bag ≡ [] → AreMerged rules listed [] bag
none_merged {V} rules listed bag none = record {
  only = λ p h. absurd (not_in_nil p (subst (λ (ps : List (Point V)). Contains ps p) none h));
  covers = λ stop h. absurd (not_in_nil stop h);
}

-- one stop more
pub merged_more : {V : Type 0} (rules : Rules V) (listed : ℕ → List (Point V)) (stops : List ℕ) (index d : ℕ) (points old new : List (Point V))
    → index < length stops → points ≡ listed (get_or stops index d)
    → ((stop : ℕ) → Contains stops stop → (p : Point V) → Contains (listed stop) p → Admits rules p.value)
    → TakesIn rules points old new → AreMerged rules listed (take index stops) old → AreMerged rules listed (take (index + 1) stops) new
merged_more {V} rules listed stops index d points old new less are admits takes before =
    let stop = get_or stops index d in
    let more : take index stops ++ stop ∷ [] ≡ take (index + 1) stops = sym (take_more stops index d less) in
    subst (λ (ss : List ℕ). AreMerged rules listed ss new) more (record {
      only = λ p h. elim (takes.only p h) [
        | inl in_old ↦ (let was = before.only p in_old in (was.0, Contains-append_left (take index stops) (stop ∷ []) was.0 was.1, was.2))
        | inr taken ↦ (
          stop,
          Contains-append_right (take index stops) (stop ∷ []) stop (contains_first stop []),
          subst (λ (ps : List (Point V)). Contains ps p) are taken,
        )
      ];
      covers = λ other h p listed_there. elim (Contains-push_cases (take index stops) stop other h) [
        | inl earlier ↦ takes.kept p.departure p.value (admits other (in_front stops index other earlier) p listed_there)
            (before.covers other earlier p listed_there)
        | inr same ↦ takes.each p (subst (λ (ps : List (Point V)). Contains ps p) (sym are) (subst (λ (s : ℕ). Contains (listed s) p) (sym same) listed_there))
      ];
    })

-- only one is in a list of one
the_one : (stop source : ℕ) → Contains (stop ∷ []) source → source ≡ stop
the_one stop source h = elim (contains_cases source stop [] h) [
  | inl same ↦ sym same
  | inr rest ↦ absurd (not_in_nil source rest)
]

module _ {V : Type 0} (rules : Rules V) (laws : Laws rules) (t : TimetableValue) (d : SetQueryValue) (can : CanScan t d) where
  can_from : (stop : ℕ) → CanScan t (from_stop d stop)
  can_from stop = record { legal = can.legal; limits = can.limits; in_time = can.in_time }

  can_from_all : (stops : List ℕ) → CanScan t (from_stops d stops)
  can_from_all stops = record { legal = can.legal; limits = can.limits; in_time = can.in_time }

  -- the points of an answer are admitted
  pub answer_admits : (stop : ℕ) (points : List (Point V)) → IsAnswerBetween rules t (from_stop d stop) points
      → (p : Point V) → Contains points p → Admits rules p.value
  answer_admits stop points answer p h =
      point_admits rules laws t (from_stop d stop) (can_from stop) p.departure p.value
      ((answer.exactly p.departure p.value).0 (p, h, refl, refl)).is_point

  -- a point from one of the stops is one from any of them, and the other way round
  from_any : (stops : List ℕ) (stop departure : ℕ) (v : V) → Contains stops stop → IsPointBetween rules t (from_stop d stop) departure v
      → IsPointBetween rules t (from_stops d stops) departure v
  from_any stops stop departure v is point =
      let pair = point.1.pair in
      let source_is = the_one stop pair.source pair.is_source in (
        point.0,
        record {
          pair = record {
            source = pair.source;
            target = pair.target;
            is_source = subst (λ (s : ℕ). Contains stops s) (sym source_is) is;
            is_target = pair.is_target;
          };
          counts = point.1.counts;
        },
        point.2,
      )

  from_its_own : (stops : List ℕ) (departure : ℕ) (v : V) → (point : IsPointBetween rules t (from_stops d stops) departure v)
      → IsPointBetween rules t (from_stop d point.1.pair.source) departure v
  from_its_own stops departure v point =
      let pair = point.1.pair in (
        point.0,
        record {
          pair = record { source = pair.source; target = pair.target; is_source = contains_first pair.source []; is_target = pair.is_target };
          counts = point.1.counts;
        },
        point.2,
      )

  -- the best points of the answers from some stops, in order, are the answer from any of them
  pub merged_is_answer : (stops : List ℕ) (listed : ℕ → List (Point V)) (bag points : List (Point V))
      → ((stop : ℕ) → Contains stops stop → IsAnswerBetween rules t (from_stop d stop) (listed stop))
      → AreMerged rules listed stops bag → IsBag rules points → AllPairs (Before rules) points → ((p : Point V) → Contains points p → Contains bag p)
      → ((p : Point V) → Contains bag p → Contains points p) → IsAnswerBetween rules t (from_stops d stops) points
  merged_is_answer stops listed bag points answer merged is_bag ordered from_bag each =
      found_is_answer rules laws (IsPointBetween rules t (from_stops d stops)) admits points is_bag sound complete ordered
    where
      admits : (departure : ℕ) (v : V) → IsPointBetween rules t (from_stops d stops) departure v → Admits rules v
      admits departure v point = point_admits rules laws t (from_stops d stops) (can_from_all stops) departure v point

      sound : (p : Point V) → Contains points p → IsPointBetween rules t (from_stops d stops) p.departure p.value
      sound p h =
          let of = merged.only p (from_bag p h) in
          from_any stops of.0 p.departure p.value of.1
          (((answer of.0 of.1).exactly p.departure p.value).0 (p, of.2, refl, refl)).is_point

      complete : (departure : ℕ) (v : V) → IsPointBetween rules t (from_stops d stops) departure v → Covers rules points departure v
      complete departure v point =
          let stop = point.1.pair.source in
          let is = point.1.pair.is_source in
          let first = (answer stop is).unbeaten departure v (from_its_own stops departure v point) in
          let r = first.0 in
          let then = merged.covers stop is r first.1 in
          let q = then.0 in
          let there = each q then.1 in (
            q,
            there,
            omega (arith, first.2, then.2),
            laws.transitive q.value r.value v (is_bag.admitted q there) (answer_admits stop (listed stop) (answer stop is) r first.1)
                (admits departure v point) then.3 first.3,
          )
