use Rattle.std.proofs.Common.{subst}
use Rattle.image_layout.specs.Image.{ImageValue}
use Rattle.image_verifier.specs.FirstAt.{IsFirstAt}
use Rattle.image_verifier.proofs.SearchLemmas.{before_first, from_first}
use Rattle.image_verifier.proofs.verified.Verified.first_at.Goals as goal

pub returns-clause-within : goal.returns-clause-within
returns-clause-within c = (subst (λ (v : ImageValue). IsFirstAt v.timetable c.args.time c.first_departure.result)
    c.of.ensures.image c.first_departure.ensures.first).in_range

pub returns-clause-before : goal.returns-clause-before
returns-clause-before c = before_first _ _ _
    (subst (λ (v : ImageValue). IsFirstAt v.timetable c.args.time c.first_departure.result) c.of.ensures.image
    c.first_departure.ensures.first)

pub returns-clause-from : goal.returns-clause-from
returns-clause-from c = from_first _ _ _ (subst
    (λ (v : ImageValue). IsFirstAt v.timetable c.args.time c.first_departure.result) c.of.ensures.image
    c.first_departure.ensures.first)
