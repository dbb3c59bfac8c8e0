use Rattle.std.proofs.Common.{◌≡◌, ◌+◌, ◌-◌, ◌<◌, ◌≤◌, IfSome, ap, refl, subst, arith, drop, get_or, length}
use Rattle.std.proofs.lemmas.List.{get_or_default}
use Rattle.std.proofs.lemmas.Option.{slice_get-get_or}
use Rattle.travel_times.specs.Tally.{IsTally}
use Rattle.travel_times.specs.declared.spans.Span.{Span}
use Rattle.travel_times.proofs.Tallies.{tally_begun, tally_grown}
use Rattle.travel_times.proofs.waiting.tally_of.Goals as goal

abbrev no_span : Span
no_span = record { departure = 0; arrival = 0 }

pub loop-index-init : goal.loop-index-init
loop-index-init c =
    let spans = c.args.spans.now in
    let index = length spans - 1 in
    let last = get_or spans index no_span in
    let some = c.requires.some in
    let fits = c.ranges.until.fits in
    let until = c.from.ensures in
    let within : index < length spans = omega (arith, some) in
    record {
      within = within;
      small = omega (arith, fits, until);
      known = tally_begun c.args.after c.args.until spans _ index last (omega (arith, some)) (get_or_default spans index no_span last within) c.requires.window
          (subst (λ o. IfSome o (λ span. c.args.until ≤ span.departure)) (slice_get-get_or spans index no_span within) c.requires.last)
          (ap (λ n. n + 1) until) refl refl;
    }

pub loop-index-preserved : goal.loop-index-preserved
loop-index-preserved c =
    let spans = c.args.spans.now in
    let index = c.loop-index.index in
    let span = get_or spans (index - 1) no_span in
    let some = c.loop-index-test.true in
    let within = c.loop-index.invariant.within in
    let there : index ≡ index - 1 + 1 = omega (arith, some) in
    let later : index - 1 + 1 < length spans = omega (arith, some, within) in
    record {
      within = omega (arith, within);
      small = c.with_earlier-tally.ensures.small;
      known = tally_grown c.args.after c.args.until spans c.loop-index.tally _ (index - 1) span later
          (get_or_default spans (index - 1) no_span span (omega (arith, within))) c.requires.ordered c.with_earlier-tally.ensures.known
          (subst (λ k. IsTally c.args.after c.args.until (drop k spans) c.loop-index.tally) there c.loop-index.invariant.known);
    }
