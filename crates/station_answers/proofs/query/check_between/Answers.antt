use Rattle.std.proofs.Common.{◌≡◌, ◌⊎◌, ◌≤◌, ℕ, List, Contains, max, sym, subst, inl, inr, arith}
use Rattle.std.proofs.lemmas.Bool.{cases_lt}
use Rattle.timetable.specs.declared.limits.TheConstants.{TIME_END}
use Rattle.scan_state.specs.SetQuery.{question}
use Rattle.station_answers.specs.Asking.{AreApart, AreStops, HasBadTimes}
use Rattle.station_answers.proofs.query.check_between.Goals.{then-query-via-then-query, then-query-via-else-query+then-query-2}
use Rattle.station_answers.proofs.query.check_between.Goals.{then-query-via-else-query+else-query-2+then-latest-ge-TIME_END}
use Rattle.station_answers.proofs.query.check_between.Goals as goal

-- the later of two times is too late
too_late : (until by latest end : ℕ) → latest ≡ max until by → end ≤ latest → (end ≤ until) ⊎ (end ≤ by)
too_late until by latest end is late = elim (cases_lt until end) [
  | inl low ↦ inr (omega (arith, is, late, low))
  | inr high ↦ inl high
]

pub returns-then-share_one : goal.returns-then-share_one
returns-then-share_one c =
    let both = c.if-share_one.ensures in (
      subst (λ (xs : List ℕ). AreStops c.args.stops xs) c.deref.ensures.value c.if-not-are_below.ensures,
      subst (λ (xs : List ℕ). AreStops c.args.stops xs) c.deref-2.ensures.value c.if-not-are_below-2.ensures,
      (
        both.0,
        subst (λ (xs : List ℕ). Contains xs both.0) c.deref-3.ensures.value both.1,
        subst (λ (xs : List ℕ). Contains xs both.0) c.deref-4.ensures.value both.2,
      ),
    )

pub returns-then-query : goal.returns-then-query
returns-then-query c =
    let apart : AreApart (question c.args.query.now) = λ stop source target. c.if-share_one.ensures stop
    (subst (λ (xs : List ℕ). Contains xs stop) (sym c.deref-3.ensures.value) source)
    (subst (λ (xs : List ℕ). Contains xs stop) (sym c.deref-4.ensures.value) target) in
    let bad : HasBadTimes (question c.args.query.now) = elim c.then-query.branch [
      | then-query-via-then-query w ↦ inl w.if-query.true
      | then-query-via-else-query+then-query-2 w ↦ inr (inl w.if-query-2.true)
      | then-query-via-else-query+else-query-2+then-latest-ge-TIME_END w ↦
          inr (inr (inr (too_late c.args.query.now.until c.args.query.now.by c.max-latest.result TIME_END c.max-latest.ensures w.if-latest-ge-TIME_END.true)))
    ] in (
      subst (λ (xs : List ℕ). AreStops c.args.stops xs) c.deref.ensures.value c.if-not-are_below.ensures,
      subst (λ (xs : List ℕ). AreStops c.args.stops xs) c.deref-2.ensures.value c.if-not-are_below-2.ensures,
      apart,
      bad,
    )

pub returns : goal.returns
returns c = record {
  sources = subst (λ (xs : List ℕ). AreStops c.args.stops xs) c.deref.ensures.value c.if-not-are_below.ensures;
  targets = subst (λ (xs : List ℕ). AreStops c.args.stops xs) c.deref-2.ensures.value c.if-not-are_below-2.ensures;
  differ = λ stop source target. c.if-share_one.ensures stop
      (subst (λ (xs : List ℕ). Contains xs stop) (sym c.deref-3.ensures.value) source)
      (subst (λ (xs : List ℕ). Contains xs stop) (sym c.deref-4.ensures.value) target);
  window = omega (arith, c.if-query.false);
  in_time = omega (arith, c.if-query-2.false);
  small = (
    omega (arith, c.if-latest-ge-TIME_END.false, c.max-latest.ensures, c.if-query.false),
    omega (arith, c.if-latest-ge-TIME_END.false, c.max-latest.ensures),
    omega (arith, c.if-latest-ge-TIME_END.false, c.max-latest.ensures),
  );
}
