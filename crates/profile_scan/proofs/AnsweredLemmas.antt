-- What a scan found, put in order, is the answer.
use Rattle.std.proofs.Common.{◌≡◌, ◌∙◌, ◌<◌, ◌≤◌, ℕ, List, AllPairs, Contains, length, map, get_or, inl, inr, ap, sym, subst, arith}
use Rattle.std.proofs.lemmas.List.{get_or_default, length-map}
use Rattle.std.proofs.Math.ListN.{get_or-map}
use Rattle.criteria.specs.Laws.{Rules, Laws, NoWorse}
use Rattle.bags.specs.Dominance.{IsBag}
use Rattle.bags.specs.declared.point.Point.{Point}
use Rattle.timetable.specs.TimetableValue.{TimetableValue}
use Rattle.sources.specs.FirstAt.{IsFirstAt}
use Rattle.scan_state.specs.Values.{journey_value}
use Rattle.scan_state.specs.Continuations.{CountsFrom}
use Rattle.scan_state.specs.SetQuery.{SetQueryValue, CountsBetween, IsPointBetween}
use Rattle.scan_state.specs.Plain.{IsPlainOf}
use Rattle.scan_state.specs.Points.{AreInOrder, Before, IsAnswerOf, untagged}
use Rattle.scan_state.specs.ScanRecords.{ScanRecords, spelling_of}
use Rattle.profile_scan.specs.JourneyNodes.{AreSpelledAgain}
use Rattle.profile_scan.specs.Answered.{IsTaggedAnswer}
use Rattle.scan_state.specs.SetQuery.{CanScan}
use Rattle.profile_scan.specs.Nodes.{spelling}
use Rattle.profile_scan.specs.Scans.{HasFound}
use Rattle.profile_scan.specs.declared.nodes.Node.{Node}
use Rattle.profile_scan.proofs.Answer.{match_is_the_answer}
use Rattle.profile_scan.proofs.OrderLemmas.{listed_bag, listed_match}

-- points alike, tags aside
spelled_again_in : {V : Type 0} (old new : List (Point V)) → map untagged new ≡ map untagged old → (p : Point V)
    → Contains new p → (q : Point V) × Contains old q × (q.departure ≡ p.departure) × (q.value ≡ p.value)
spelled_again_in {V} old new same p h =
    let k = h.0 in
    let long = ap length same in
    let old_long = length-map old untagged in
    let new_long = length-map new untagged in
    let q = get_or old k p in
    let e : untagged q ≡ untagged p =
    sym (get_or-map untagged old k p) ∙ ap (λ (xs : List (ℕ × V)). get_or xs k (untagged p)) (sym same) ∙ get_or-map untagged new k p ∙ ap untagged h.2 in
    (q, (k, omega (arith, h.1), get_or_default old k q p (omega (arith, h.1))), ap (λ (x : ℕ × V). x.0) e, ap (λ (x : ℕ × V). x.1) e)

spelled_again_before : {V : Type 0} (rules : Rules V) (old new : List (Point V)) → map untagged new ≡ map untagged old
    → AllPairs (Before rules) old → AllPairs (Before rules) new
spelled_again_before {V} rules old new same pairs i j d lt within =
    let long = ap length same in
    let old_long = length-map old untagged in
    let new_long = length-map new untagged in
    let at : (k : ℕ) → untagged (get_or old k d) ≡ untagged (get_or new k d) =
    λ k. sym (get_or-map untagged old k d) ∙ ap (λ (xs : List (ℕ × V)). get_or xs k (untagged d)) (sym same)
    ∙ get_or-map untagged new k d in
    alike (get_or old i d) (get_or old j d) (get_or new i d) (get_or new j d) (at i) (at j) (pairs i j d lt (omega arith))
  where
    alike : (p q r s : Point V) → untagged p ≡ untagged r → untagged q ≡ untagged s → Before rules p q → Before rules r s
    alike p q r s e f (inl lt) = inl (subst (λ (n : ℕ). r.departure < n) (ap (λ (x : ℕ × V). x.0) f)
        (subst (λ (n : ℕ). n < q.departure) (ap (λ (x : ℕ × V). x.0) e) lt))
    alike p q r s e f (inr (same_time, less)) = inr (
      sym (ap (λ (x : ℕ × V). x.0) e) ∙ same_time ∙ ap (λ (x : ℕ × V). x.0) f,
      ap (λ (v : V). rules.list_order v s.value) (sym (ap (λ (x : ℕ × V). x.1) e)) ∙ ap (rules.list_order p.value) (sym (ap (λ (x : ℕ × V). x.1) f)) ∙ less,
    )

pub spelled_again_answer : {V : Type 0} (rules : Rules V) (IsThere : ℕ → V → Type 0) (old new : List (Point V))
    → map untagged new ≡ map untagged old → IsAnswerOf rules IsThere old → IsAnswerOf rules IsThere new
spelled_again_answer {V} rules IsThere old new same is = record {
  exactly = λ d v. (
    (λ listed. let r = spelled_again_in old new same listed.0 listed.1 in (is.exactly d v).0 (r.0, r.1, r.2 ∙ listed.2, r.3 ∙ listed.3)),
    (λ undominated. let listed = (is.exactly d v).1 undominated in let r =
        spelled_again_in new old (sym same) listed.0 listed.1
        in (r.0, r.1, r.2 ∙ listed.2, r.3 ∙ listed.3)),
  );
  unbeaten = λ d v point.
      let c = is.unbeaten d v point in
      let r = spelled_again_in new old (sym same) c.0 c.1 in
      (r.0, r.1, subst (λ (n : ℕ). d ≤ n) (sym r.2) c.2, subst (λ (w : V). NoWorse rules w v) (sym r.3) c.3);
  ordered = spelled_again_before rules old new same is.ordered;
}

-- points that match at the start of the window, in order, are the answer, and each is attained by what its tag tells
pub answered_from : {V : Type 0} (rules : Rules V) → Laws rules → (t : TimetableValue) (q : SetQueryValue) → CanScan t q → (start : ℕ)
    → IsFirstAt t q.from start → (s : ScanRecords) (found points : List (Point V)) → HasFound rules t q start s found → IsBag rules found
    → AreInOrder rules found points → IsTaggedAnswer rules t q (spelling_of t.footpaths s).journey points
answered_from rules laws t q can start is_start s found points matches bag are =
    let tags = spelling_of t.footpaths s in
    record {
      answer = match_is_the_answer rules laws t q can start is_start tags points
          (listed_match rules tags.journey (CountsFrom t q start) (IsPlainOf t (Contains q.targets))
          (journey_value rules t) found points are.only are.each matches)
          (listed_bag rules laws found points bag are.ordered are.only)
          are.ordered;
      attained = λ p h.
          let a = matches.sound p (are.only p h) in
          record { way = a.way; spells = a.spells; there = a.there.counts; plain = a.plain; worth = a.worth };
    }

-- spelled in nodes they still are
pub tagged_in_nodes : {V : Type 0} (rules : Rules V) (t : TimetableValue) (q : SetQueryValue) (s : ScanRecords) (points spelled_again : List (Point V))
    (nodes : List Node) → IsTaggedAnswer rules t q (spelling_of t.footpaths s).journey points → AreSpelledAgain t.footpaths s points spelled_again nodes
    → IsTaggedAnswer rules t q (spelling nodes).journey spelled_again
tagged_in_nodes rules t q s points spelled_again nodes is again = record {
  answer = spelled_again_answer rules (IsPointBetween rules t q) points spelled_again again.same is.answer;
  attained = λ p h.
      let r = again.says p h in
      let a = is.attained r.of r.is_there in
      record {
        way = a.way;
        spells = r.says a.way a.spells;
        there = subst (λ (n : ℕ). CountsBetween t q n a.way) (sym r.departs) a.there;
        plain = a.plain;
        worth = r.worth ∙ a.worth;
      };
}
