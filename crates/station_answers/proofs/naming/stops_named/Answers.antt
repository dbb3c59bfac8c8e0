use Rattle.std.proofs.Common.{◌+◌, ℕ, List, map, take, subst, sym, arith, Bor}
use Rattle.std.specs.List.{AllZip}
use Rattle.journeys.specs.Questions.{IsNamed}
use Rattle.station_answers.proofs.NameLemmas.{item_named_as, item_unknown_as}
use Rattle.station_answers.proofs.naming.stops_named.Goals as goal

pub returns-in-None : goal.returns-in-None
returns-in-None c =
    item_unknown_as (λ (name : Bor (List ℕ)). name.now) c.args.image.now.names c.args.names.now c.loop-name.name-index _ c.as_bytes.result.now (omega arith)
    c.as_bytes.ensures.value c.in-None.ensures.none

pub loop-name-preserved : goal.loop-name-preserved
loop-name-preserved c =
    let names = c.args.image.now.names in
    subst (λ (xs : List ℕ). AllZip (IsNamed names) (take (c.loop-name.name-index + 1) (map (λ (name : Bor (List ℕ)). name.now) c.args.names.now)) xs)
    (sym c.in_ok-push-in-Some.ensures.items)
    (item_named_as (λ (name : Bor (List ℕ)). name.now) names c.args.names.now c.loop-name.name-index _ c.as_bytes.result.now c.loop-name.stops.items
    c.in-Some.stop
    (omega arith) c.as_bytes.ensures.value c.in-Some.ensures.found c.in-Some.ensures.least c.loop-name.invariant)
