use Rattle.std.proofs.Common.{◌≡◌, ◌∙◌, ◌<◌, ◌≤◌, ◌+◌, ◌-◌, ℕ, List, Option, Some, ap, sym, arith, drop, get_or, length, map}
use Rattle.std.proofs.lemmas.List.{at_drop_all, at_drop_more}
use Rattle.travel_times.specs.Figures.{least_of, lesser, travel}
use Rattle.travel_times.specs.declared.spans.Span.{Span}
use Rattle.travel_times.proofs.figures.least_travel.Goals as goal

pub loop-index-init : goal.loop-index-init
unfolding least_of
loop-index-init c = record {
  within = omega arith;
  least = sym (at_drop_all (λ (spans : List Span). least_of (map travel spans)) c.args.spans.now (length c.args.spans.now) (omega arith));
}

-- the least of a departure and those after it
one_earlier : (spans : List Span) (index number : ℕ) (least : Option ℕ) (d : Span) → 0 < index → index ≤ length spans
    → least ≡ least_of (map travel (drop index spans)) → number ≡ lesser (travel (get_or spans (index - 1) d)) least
    → Some number ≡ least_of (map travel (drop (index - 1) spans))
unfolding least_of
one_earlier spans index number least d some within least_is is =
    let there : index ≡ index - 1 + 1 = omega (arith, some) in
    ap (λ (n : ℕ). Some n) (is ∙ ap (λ (o : Option ℕ). lesser (travel (get_or spans (index - 1) d)) o)
    (least_is ∙ ap (λ k. least_of (map travel (drop k spans))) there))
    ∙ sym (at_drop_more (λ (xs : List Span). least_of (map travel xs)) spans (index - 1) d (omega (arith, some, within)))

pub loop-index-preserved : goal.loop-index-preserved
loop-index-preserved c =
    let some = c.loop-index-test.true in
    let within = c.loop-index.invariant.within in
    record {
      within = omega (arith, within);
      least = one_earlier c.args.spans.now c.loop-index.index c.lesser_of.result c.loop-index.least _ some within c.loop-index.invariant.least
          (c.lesser_of.ensures ∙ ap (λ (t : ℕ). lesser t c.loop-index.least) c.travel.ensures);
    }
