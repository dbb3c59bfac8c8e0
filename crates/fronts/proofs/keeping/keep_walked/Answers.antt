use Rattle.std.proofs.Common.{◌≡◌, length, Contains, false, inl, inr, sym, ◌∙◌, subst, arith}
use Rattle.std.proofs.lemmas.List.Elements.{Contains-push_cases}
use Rattle.reasoning.proofs.ListLemmas.{extends_none, extends_on, not_in_nil}
use Rattle.criteria.specs.Laws.{Admits}
use Rattle.fronts.specs.declared.entry.Item.{Item}
use Rattle.fronts.specs.Front.{front, Betters}
use Rattle.fronts.specs.Putting.{betters}
use Rattle.fronts.proofs.Leaving.{match_err}
use Rattle.fronts.proofs.OnePut.{betters_some}
use Rattle.fronts.proofs.Walks.{boardings_none, boardings_more, all_more}
use Rattle.fronts.proofs.keeping.keep_walked.Goals as goal
use Rattle.fronts.proofs.keeping.keep_walked.Goals.{then-not-front_betters+in_ok-keep_value, else-not-front_betters}

pub loop-i-init : goal.loop-i-init
loop-i-init g c = record {
  more = extends_none c.args.steps.now.items;
  boarded = boardings_none (g.C.Criterion.rules c.args.criterion.now) c.args.boarding c.args.ridden.now c.args.steps.now.items c.clear.new.self.items
      c.clear.ensures.items;
  fresh = λ p h. absurd (not_in_nil p (subst (λ ps. Contains ps p) c.clear.ensures.items h));
  all = λ k d lt. absurd (omega arith);
}

pub front_betters-requires-clause-value : goal.front_betters-requires-clause-value
front_betters-requires-clause-value g c =
    let rules = g.C.Criterion.rules c.args.criterion.now in
    subst (Admits rules) (sym c.walk-value.ensures)
    ((g.met.C.Criterion.laws c.args.criterion.now).walk_admits c.args.boarding.secs c.index-ridden-i.result.value
    c.requires.may.short (c.requires.may.admitted c.index-ridden-i.result (c.loop-i.i, omega arith, sym c.index-ridden-i.is)))

pub returns-in_err-keep_value : goal.returns-in_err-keep_value
returns-in_err-keep_value g c =
    match_err _ _ c.from_residual.result c.from_residual.ensures.1
    (extends_on c.args.steps.now.items c.loop-i.steps.items c.keep_value.new.steps.items c.loop-i.invariant.more
    c.in_err-keep_value.ensures)

pub returns : goal.returns
returns g c = (
  c.loop-i.invariant.more,
  record {
    boarded = c.loop-i.invariant.boarded;
    fresh = c.loop-i.invariant.fresh;
    all = λ k d lt. c.loop-i.invariant.all k d (omega arith);
  },
)

pub loop-i-preserved : goal.loop-i-preserved
loop-i-preserved g c =
    let rules = g.C.Criterion.rules c.args.criterion.now in
    let laws = g.met.C.Criterion.laws c.args.criterion.now in
    let inv = c.loop-i.invariant in
    let r = c.index-ridden-i.result in
    let points = front c.args.arena.entries.now c.args.arena.items.now c.args.index in
    let contained = c.requires.may.admitted r (c.loop-i.i, omega arith, sym c.index-ridden-i.is) in
    let admitted = subst (Admits rules) (sym c.walk-value.ensures) (laws.walk_admits c.args.boarding.secs r.value c.requires.may.short contained) in
    elim c.if-not-front_betters.branch [
      | then-not-front_betters+in_ok-keep_value w ↦ (
          let m = boardings_more rules c.args.boarding c.args.ridden.now laws c.loop-i.steps.items w.keep_value.new.steps.items
          c.loop-i.kept.items w.keep_value.new.kept.items c.walk-value.result r
          inv.boarded admitted (c.loop-i.i, omega arith, sym c.index-ridden-i.is) c.walk-value.ensures w.in_ok-keep_value.ensures in
          rw (w.steps-is, w.kept-is) (record {
            more = extends_on c.args.steps.now.items c.loop-i.steps.items w.keep_value.new.steps.items inv.more (_, w.in_ok-keep_value.ensures.steps_more);
            boarded = m.0;
            fresh = λ p h. elim (Contains-push_cases c.loop-i.kept.items (record {
              departure = c.args.boarding.departure;
              value = c.walk-value.result;
              tag = length c.loop-i.steps.items;
            }) p (subst (λ ps. Contains ps p) w.in_ok-keep_value.ensures.kept_more h)) [
              | inl was ↦ inv.fresh p was
              | inr e ↦ subst (λ (z : Item g.row.C-V.Denot). betters rules points z.value ≡ false) e
                  (sym c.front_betters.ensures ∙ w.if-not-front_betters.true)
            ];
            all = all_more rules c.args.boarding c.args.ridden.now points c.loop-i.kept.items w.keep_value.new.kept.items c.loop-i.i
                r m.1 (omega arith) c.index-ridden-i.is inv.all
                (inl (subst (Betters rules w.keep_value.new.kept.items) c.walk-value.ensures m.2));
          }))
      | else-not-front_betters w ↦ rw (w.steps-is, w.kept-is) (record {
        more = inv.more;
        boarded = inv.boarded;
        fresh = inv.fresh;
        all = all_more rules c.args.boarding
            c.args.ridden.now points c.loop-i.kept.items c.loop-i.kept.items c.loop-i.i r
            (extends_none c.loop-i.kept.items) (omega arith) c.index-ridden-i.is inv.all
            (inr (subst (Betters rules points) c.walk-value.ensures
            (betters_some rules points c.walk-value.result (sym c.front_betters.ensures
            ∙ w.if-not-front_betters.false))));
      })
    ]
