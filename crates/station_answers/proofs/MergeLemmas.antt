-- The best points of several answers.
use Rattle.std.proofs.Common.{◌≡◌, ◌⊎◌, ℕ, ◌+◌, ◌<◌, ◌≤◌, Bool, true, false, nat_le, List, [], ◌∷◌, ◌++◌, length, Contains, AllPairs}
use Rattle.std.proofs.Common.{slice_get, Some}
use Rattle.std.proofs.Common.{get_or, refl, sym, ◌∙◌, ap, subst, inl, inr, arith, append-nil, append_assoc}
use Rattle.std.proofs.lemmas.Bool.{cases_Bool, cases_lt, leb-true, and_parts, true≢false}
use Rattle.std.proofs.lemmas.Option.{get_or_from_slice_get, same_Some, slice_get_within}
use Rattle.reasoning.specs.Lists.{Extends}
use Rattle.reasoning.proofs.ListLemmas.{slice_get-append, slice_get-last, at_contains, contains_at}
use Rattle.criteria.specs.Laws.{Rules, Laws, Admits, NoWorse}
use Rattle.bags.specs.Bag.{points_of}
use Rattle.bags.specs.Dominance.{IsBag, Inserted, Stands, dominates, Dominates}
use Rattle.bags.specs.declared.point.Point.{Point}
use Rattle.timetable.specs.TimetableValue.{TimetableValue}
use Rattle.timetable.specs.declared.query.Query.{Query}
use Rattle.timetable.specs.JourneyValue.{JourneyValue}
use Rattle.timetable.specs.Journeys.{Counts}
use Rattle.scan_state.specs.SetQuery.{SetQueryValue, IsAnswerBetween, IsPointBetween, single_set_query, pair_of, query_of_pair}
use Rattle.profile_scan.specs.Destinations.{query_from}
use Rattle.profile_scan.specs.declared.destination.Destination.{Destination}
use Rattle.profile_scan.specs.Found.{Answers, listed}
use Rattle.scan_state.specs.SetQuery.{CanScan}
use Rattle.scan_state.specs.Points.{Before, Covers, IsPoint}
use Rattle.profile_scan.specs.declared.found.Found.{Found}
use Rattle.scan_state.proofs.Admitted.{point_admits}
use Rattle.profile_scan.proofs.Single.{to_one}
use Rattle.journeys.specs.Extracted.{Attains}
use Rattle.station_answers.specs.Asking.{IsToTarget, destination_to}
use Rattle.station_answers.specs.Attaining.{AttainsPair}
use Rattle.station_answers.specs.Merging.{MergesFirst, TakesFound, IsOfFounds, AnswersPair, IsMerged, CoversQuery, CoversAll, KeepsCovered}
use Rattle.station_answers.specs.declared.merging.MergedAnswers.{MergedAnswers}
use Rattle.station_answers.specs.declared.merging.PointSource.{PointSource}
use Rattle.station_answers.proofs.SetLemmas.{found_is_answer}

dominated : {V : Type 0} (rules : Rules V) (p q : Point V) → Dominates rules p q → (q.departure ≤ p.departure) × NoWorse rules p.value q.value
dominated rules p q d =
    let h = and_parts (nat_le q.departure p.departure) (rules.no_worse p.value q.value) d in
    (leb-true q.departure p.departure h.0, h.1)

-- what an insertion does
record TakesPoint {V : Type 0} (rules : Rules V) (p : Point V) (old new : List (Point V)) : Type 0 where
  only : (q : Point V) → Contains new q → Contains old q ⊎ (q ≡ p)
  kept : (departure : ℕ) (v : V) → Admits rules v → Covers rules old departure v → Covers rules new departure v
  taken : Covers rules new p.departure p.value

inserted_takes : {V : Type 0} (rules : Rules V) → Laws rules → (old new : List (Point V)) (p : Point V) (stands : Bool)
    → IsBag rules old → Admits rules p.value → Stands rules old p stands → Inserted rules old p stands new
    → TakesPoint rules p old new
inserted_takes {V} rules laws old new p true bag admitted none is = record {
  only = λ q h. elim ((is q).0 h) [ inl e ↦ inr e | inr was ↦ inl was.0 ];
  kept = λ d v a c. elim (cases_Bool (dominates rules p c.0)) [
    | inl dom ↦
        let h = dominated rules p c.0 dom in
        let late : d ≤ p.departure = omega (arith, c.2, h.0) in
        (p, (is p).1 (inl refl), late, laws.transitive p.value c.0.value v admitted (bag.admitted c.0 c.1) a h.1 c.3)
    | inr free ↦ (c.0, (is c.0).1 (inr (c.1, λ dom. true≢false (sym dom ∙ free))), c.2, c.3)
  ];
  taken = (p, (is p).1 (inl refl), omega arith, laws.reflexive p.value admitted);
}
inserted_takes {V} rules laws old new p false bag admitted above is = record {
  only = λ q h. inl (subst (λ xs. Contains xs q) is h);
  kept = λ d v a c. subst (λ xs. Covers rules xs d v) (sym is) c;
  taken =
      let h = dominated rules above.0 p above.2 in
      subst (λ xs. Covers rules xs p.departure p.value) (sym is) (above.0, above.1, h.0, h.1);
}

pub merges_none : {V : Type 0} (rules : Rules V) (points : List (Point V)) (number : ℕ) (old : List (Point V)) (origins : List PointSource)
    → MergesFirst rules points number 0 old origins old origins
merges_none rules points number old origins = record {
  only = λ p h. inl h;
  kept = λ d v a c. c;
  each = λ k q lt at. absurd (omega (arith, lt));
  noted = ([], sym (append-nil origins));
}

-- one point more
pub merges_one : {V : Type 0} (rules : Rules V) → Laws rules → (points : List (Point V)) (number n : ℕ) (p : Point V) (tag : ℕ) (stands : Bool)
    (was : List (Point V)) (was_origins : List PointSource) (old : List (Point V)) (origins : List PointSource) (new : List (Point V))
    (new_origins : List PointSource)
    → IsBag rules old → slice_get points n ≡ Some p → ((q : Point V) → Contains points q → Admits rules q.value) → tag ≡ length origins
    → new_origins ≡ origins ++ record { found = number; index = n } ∷ []
    → Stands rules old (record { departure = p.departure; value = p.value; tag = tag }) stands
    → Inserted rules old (record { departure = p.departure; value = p.value; tag = tag }) stands new
    → MergesFirst rules points number n was was_origins old origins
    → MergesFirst rules points number (n + 1) was was_origins new new_origins
merges_one {V} rules laws points number n p tag stands was was_origins old origins new new_origins bag at admits is_tag pushed is_stands is_inserted before =
    let x : Point V = record { departure = p.departure; value = p.value; tag = tag } in
    let takes = inserted_takes rules laws old new x stands bag (admits p (contains_at points n p at)) is_stands is_inserted in
    record {
      only = λ q h. elim (takes.only q h) [
        | inl in_old ↦ elim (before.only q in_old) [
          | inl in_was ↦ inl in_was
          | inr of ↦ inr (record {
            index = of.index;
            point = of.point;
            within = let below = of.within in omega (arith, below);
            stands = of.stands;
            noted = still_noted q.tag (record { found = number; index = of.index }) of.noted;
            departs = of.departs;
            worth = of.worth;
          })
        ]
        | inr same ↦ inr (record {
          index = n;
          point = p;
          within = omega arith;
          stands = at;
          noted = subst (λ (k : ℕ). slice_get new_origins k ≡ Some (record { found = number; index = n })) (sym (ap (λ (y : Point V). y.tag) same)) last_noted;
          departs = sym (ap (λ (y : Point V). y.departure) same);
          worth = sym (ap (λ (y : Point V). y.value) same);
        })
      ];
      kept = λ d v adm c. takes.kept d v adm (before.kept d v adm c);
      each = λ k q lt at_k. elim (cases_lt k n) [
        | inl low ↦ takes.kept q.departure q.value (admits q (contains_at points k q at_k)) (before.each k q low at_k)
        | inr high ↦
            let same_k : k ≡ n = omega (arith, lt, high) in
            let same : q ≡ p = same_Some q p (sym at_k ∙ (ap (λ (m : ℕ). slice_get points m) same_k ∙ at)) in
            subst (λ (r : Point V). Covers rules new r.departure r.value) (sym same) takes.taken
      ];
      noted = grown before.noted;
    }
  where
    still_noted : (k : ℕ) (o : PointSource) → slice_get origins k ≡ Some o → slice_get new_origins k ≡ Some o
    still_noted k o is = subst (λ (os : List PointSource). slice_get os k ≡ Some o) (sym pushed)
        (slice_get-append origins (record { found = number; index = n } ∷ []) k o is)

    last_noted : slice_get new_origins tag ≡ Some (record { found = number; index = n })
    last_noted = subst (λ (os : List PointSource). slice_get os tag ≡ Some (record { found = number; index = n })) (sym pushed)
        (subst (λ (k : ℕ). slice_get (origins ++ record { found = number; index = n } ∷ []) k ≡ Some (record { found = number; index = n })) (sym is_tag)
        (slice_get-last origins (record { found = number; index = n })))

    grown : Extends was_origins origins → Extends was_origins new_origins
    grown more = (
      more.0 ++ record { found = number; index = n } ∷ [],
      pushed ∙ (ap (λ (os : List PointSource). os ++ record { found = number; index = n } ∷ []) more.1
          ∙ append_assoc was_origins more.0 (record { found = number; index = n } ∷ [])),
    )

-- a journey of the point that an answer has is one of the point that is kept
pub attained_between : {K V : Type 0} {c : _} (rules_of : K → Rules V) (criterion : K) (t : TimetableValue) (b : SetQueryValue) (merged : MergedAnswers K V c)
    (p : Point V) (origin : PointSource) (found : Found K V c) (point : Point V) (j : JourneyValue) → IsMerged rules_of criterion t b merged
    → slice_get merged.founds.items origin.found ≡ Some found → point.departure ≡ p.departure → point.value ≡ p.value
    → ((q : Query) → Answers criterion (rules_of criterion) t q found → Attains (rules_of criterion) t q point j)
    → AttainsPair (rules_of criterion) t b p j
attained_between rules_of criterion t b merged p origin found point j is at departs worth attains =
    let a = is.founds origin.found found at in
    let x = attains (query_of_pair b a.pair) a.answers in
    record {
      pair = a.pair;
      attains = record {
        counts = subst (λ (n : ℕ). Counts t (query_of_pair b a.pair) n j) departs x.counts;
        plain = x.plain;
        worth = sym worth ∙ x.worth;
      };
    }

-- the query to a target from a stop is that of a pair
pub same_query : (b : SetQueryValue) (d : Destination) (stop : ℕ) → IsToTarget b d → query_from d stop ≡ pair_of b stop d.target
same_query b d stop to =
    let Q : ℕ → ℕ → ℕ → Query = λ from until by. record { source = stop; target = d.target; from = from; until = until; by = by } in
    ap (λ (n : ℕ). Q n d.until d.by) to.times.0 ∙ (ap (λ (n : ℕ). Q b.from n d.by) to.times.1 ∙ ap (λ (n : ℕ). Q b.from b.until n) to.times.2)

pub answers_pair : {K V : Type 0} {c : _} (rules : Rules V) (t : TimetableValue) (b : SetQueryValue) (d : Destination) (stop : ℕ) (criterion : K)
    (found : Found K V c)
    → IsToTarget b d → Contains b.sources stop → Answers criterion rules t (query_from d stop) found → AnswersPair criterion rules t b found
answers_pair rules t b d stop criterion found to is answers = record {
  pair = record { source = stop; target = d.target; is_source = is; is_target = to.leads };
  answers = subst (λ (q : Query). Answers criterion rules t q found) (same_query b d stop to) answers;
}

-- the journey that was extracted for a point that is kept
pub journey_attains : {K V : Type 0} {c : _} (rules_of : K → Rules V) (merged : MergedAnswers K V c) (p : Point V) → (of : IsOfFounds merged p)
    → (o : PointSource) (f : Found K V c) → o ≡ get_or merged.origins.items p.tag o → f ≡ get_or merged.founds.items o.found f → (j : JourneyValue)
    → ((criterion : K) (t : TimetableValue) (q : Query) (x : Point V) → Answers criterion (rules_of criterion) t q f
    → slice_get (listed f) o.index ≡ Some x → Attains (rules_of criterion) t q x j)
    → (criterion : K) (t : TimetableValue) (b : SetQueryValue) → IsMerged rules_of criterion t b merged → AttainsPair (rules_of criterion) t b p j
journey_attains {K} {V} {c} rules_of merged p of o f origin_read found_read j attains criterion t b is =
    let origin_is : o ≡ of.origin = origin_read ∙ get_or_from_slice_get merged.origins.items p.tag of.origin o of.noted in
    let there : slice_get merged.founds.items o.found ≡ Some of.found =
    subst (λ (x : PointSource). slice_get merged.founds.items x.found ≡ Some of.found) (sym origin_is) of.kept in
    let found_is : f ≡ of.found = found_read ∙ get_or_from_slice_get merged.founds.items o.found of.found f there in
    let stands : slice_get (listed f) o.index ≡ Some of.point =
    subst (λ (y : Found K V c). slice_get (listed y) o.index ≡ Some of.point) (sym found_is)
    (subst (λ (x : PointSource). slice_get (listed of.found) x.index ≡ Some of.point) (sym origin_is) of.stands) in
    attained_between rules_of criterion t b merged p of.origin of.found of.point j is of.kept of.departs of.worth
    (λ q answers. attains criterion t q of.point (subst (λ (y : Found K V c). Answers criterion (rules_of criterion) t q y) (sym found_is) answers) stands)

module _ {K V : Type 0} {c : _} (rules_of : K → Rules V) (criterion : K) (t : TimetableValue) (b : SetQueryValue) where
  -- an answer more
  pub take_merged : (rules : Rules V) (found : Found K V c) (old new : MergedAnswers K V c) → IsMerged rules_of criterion t b old
      → AnswersPair criterion (rules_of criterion) t b found → TakesFound rules found old new → IsMerged rules_of criterion t b new
  take_merged rules found old new is answers takes = record {
    under = takes.under ∙ is.under;
    founds = λ number f at. elim (takes.only_it number f at) [
      | inl was ↦ is.founds number f was
      | inr same ↦ subst (AnswersPair criterion (rules_of criterion) t b) same answers
    ];
    points = λ p h. elim (takes.merges.only p h) [
      | inl was ↦ still p (is.points p was)
      | inr of ↦ record {
        origin = record { found = length old.founds.items; index = of.index };
        found = found;
        point = of.point;
        noted = of.noted;
        kept = takes.put;
        stands = of.stands;
        departs = of.departs;
        worth = of.worth;
      }
    ];
  }
    where
      still : (p : Point V) → IsOfFounds old p → IsOfFounds new p
      still p of = record {
        origin = of.origin;
        found = of.found;
        point = of.point;
        noted = let more = takes.merges.noted in
            subst (λ (os : List PointSource). slice_get os p.tag ≡ Some of.origin) (sym more.1) (slice_get-append old.origins.items more.0 p.tag of.origin
            of.noted);
        kept = takes.founds of.origin.found of.found of.kept;
        stands = of.stands;
        departs = of.departs;
        worth = of.worth;
      }

-- a point of a query between two stops is admitted
plain_admits : {V : Type 0} (rules : Rules V) → Laws rules → (t : TimetableValue) (q : Query) → CanScan t (single_set_query q) → (departure : ℕ) (v : V)
    → IsPoint rules t q departure v → Admits rules v
plain_admits rules laws t q can departure v point =
    point_admits rules laws t (single_set_query q) can departure v (point.0, to_one t q departure point.0 point.1, point.2)

-- the points of an answer that is taken in are covered
pub take_covers : {K V : Type 0} {c : _} (rules : Rules V) → Laws rules → (t : TimetableValue) (q : Query) → CanScan t (single_set_query q)
    → (criterion : K) (found : Found K V c) (old new : MergedAnswers K V c) → IsBag rules (points_of new.best)
    → ((p : Point V) → Contains (listed found) p → Admits rules p.value)
    → Answers criterion rules t q found → TakesFound rules found old new → CoversQuery rules t new q
take_covers {K} {V} rules laws t q can criterion found old new bag admits answers takes departure v point =
    let first = answers.answer.unbeaten departure v point in
    let r = first.0 in
    let index = at_contains (listed found) r first.1 in
    let then = takes.merges.each index.0 r (slice_get_within (listed found) index.0 r index.1) index.1 in
    let s = then.0 in (
      s,
      then.1,
      omega (arith, first.2, then.2),
      laws.transitive s.value r.value v (bag.admitted s then.1) (admits r first.1)
          (plain_admits rules laws t q can departure v point) then.3 first.3,
    )

-- the points of an answer are admitted
pub listed_admitted : {K V : Type 0} {c : _} (rules : Rules V) → Laws rules → (t : TimetableValue) (q : Query) → CanScan t (single_set_query q)
    → (criterion : K) (found : Found K V c) → Answers criterion rules t q found
    → (p : Point V) → Contains (listed found) p → Admits rules p.value
listed_admitted rules laws t q can criterion found answers p h =
    plain_admits rules laws t q can p.departure p.value ((answers.answer.exactly p.departure p.value).0 (p, h, refl, refl)).is_point

-- what was covered of a query stays covered
pub still_covers : {K V : Type 0} {c : _} (rules : Rules V) → Laws rules → (t : TimetableValue) (q : Query) → CanScan t (single_set_query q)
    → (old new : MergedAnswers K V c) → KeepsCovered rules old new → CoversQuery rules t old q → CoversQuery rules t new q
still_covers rules laws t q can old new keeps covers departure v point =
    keeps departure v (plain_admits rules laws t q can departure v point) (covers departure v point)

-- the best points of all pairs, in order, are the answer
pub merged_answers : {K V : Type 0} {c : _} (rules_of : K → Rules V) (criterion : K) → Laws (rules_of criterion)
    → (t : TimetableValue) (b : SetQueryValue) → CanScan t b
    → (merged : MergedAnswers K V c) (points : List (Point V)) → IsMerged rules_of criterion t b merged → CoversAll (rules_of criterion) t b merged
    → IsBag (rules_of criterion) points → AllPairs (Before (rules_of criterion)) points
    → ((p : Point V) → Contains points p → Contains (points_of merged.best) p) → ((p : Point V) → Contains (points_of merged.best) p → Contains points p)
    → IsAnswerBetween (rules_of criterion) t b points
merged_answers {K} {V} rules_of criterion laws t b can merged points is covers bag ordered only each =
    found_is_answer rules laws (IsPointBetween rules t b) admits points bag sound complete ordered
  where
    rules : Rules V
    rules = rules_of criterion

    admits : (d : ℕ) (v : V) → IsPointBetween rules t b d v → Admits rules v
    admits d v point = point_admits rules laws t b can d v point

    sound : (p : Point V) → Contains points p → IsPointBetween rules t b p.departure p.value
    sound p h =
        let of = is.points p (only p h) in
        let a = is.founds of.origin.found of.found of.kept in
        let x = of.point in
        let at_x = ((a.answers.answer.exactly x.departure x.value).0 (x, contains_at (listed of.found) of.origin.index x of.stands, refl, refl)).is_point in
        let at_p : IsPoint rules t (query_of_pair b a.pair) p.departure p.value =
        subst (λ (n : ℕ). IsPoint rules t (query_of_pair b a.pair) n p.value) of.departs
        (subst (λ (w : V). IsPoint rules t (query_of_pair b a.pair) x.departure w) of.worth at_x) in
        (at_p.0, record { pair = a.pair; counts = at_p.1 }, at_p.2)

    complete : (d : ℕ) (v : V) → IsPointBetween rules t b d v → Covers rules points d v
    complete d v point =
        let covered = covers point.1.pair d v (point.0, point.1.counts, point.2) in
        (covered.0, each covered.0 covered.1, covered.2, covered.3)

-- one target more
pub next_target : {K V : Type 0} {c : _} (rules_of : K → Rules V) (criterion used : K) → Laws (rules_of criterion)
    → (t now : TimetableValue) (b : SetQueryValue)
    → ((s g : ℕ) → CanScan t (single_set_query (pair_of b s g))) → (d dest : Destination) (n target : ℕ) (old new : MergedAnswers K V c)
    → now ≡ t → used ≡ criterion → d ≡ dest → dest ≡ destination_to b target → slice_get b.targets n ≡ Some target
    → KeepsCovered (rules_of used) old new → ((s : ℕ) → Contains b.sources s → CoversQuery (rules_of used) now new (query_from d s))
    → ((k g s : ℕ) → k < n → slice_get b.targets k ≡ Some g → Contains b.sources s → CoversQuery (rules_of criterion) t old (pair_of b s g))
    → (k g s : ℕ) → k < n + 1 → slice_get b.targets k ≡ Some g → Contains b.sources s → CoversQuery (rules_of criterion) t new (pair_of b s g)
next_target {K} {V} {c} rules_of criterion used laws t now b can d dest n target old new now_is used_is d_is dest_is at keeps covers before k g s lt at_k is =
    let keeps_now : KeepsCovered (rules_of criterion) old new = subst (λ (x : K). KeepsCovered (rules_of x) old new) used_is keeps in
    elim (cases_lt k n) [
      | inl low ↦ still_covers (rules_of criterion) laws t (pair_of b s g) (can s g) old new keeps_now (before k g s low at_k is)
      | inr high ↦
          let same_k : k ≡ n = omega (arith, lt, high) in
          let same : g ≡ target = same_Some g target (sym at_k ∙ (ap (λ (m : ℕ). slice_get b.targets m) same_k ∙ at)) in
          let by_used : CoversQuery (rules_of used) t new (query_from d s) =
          subst (λ (x : TimetableValue). CoversQuery (rules_of used) x new (query_from d s)) now_is (covers s is) in
          let by_criterion : CoversQuery (rules_of criterion) t new (query_from d s) =
          subst (λ (x : K). CoversQuery (rules_of x) t new (query_from d s)) used_is by_used in
          let to_target : CoversQuery (rules_of criterion) t new (query_from (destination_to b target) s) =
          subst (λ (x : Destination). CoversQuery (rules_of criterion) t new (query_from x s)) (d_is ∙ dest_is) by_criterion in
          subst (λ (x : ℕ). CoversQuery (rules_of criterion) t new (pair_of b s x)) (sym same) to_target
    ]
