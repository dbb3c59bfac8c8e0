use Rattle.std.proofs.Common.{ℕ, map, refl, subst, Bor, List}
use Rattle.scan_state.specs.SetQuery.{SetQueryValue}
use Rattle.station_answers.specs.Asking.{IsFirstFault}
use Rattle.station_answers.specs.Naming.{AsksBetween}
use Rattle.station_answers.proofs.NameLemmas.{refused_between}
use Rattle.station_answers.proofs.naming.question_between.Goals as goal

pub returns-in-Err-check_between : goal.returns-in-Err-check_between
returns-in-Err-check_between c =
    let window = c.args.window in
    let from = map (λ (name : Bor (List ℕ)). name.now) c.args.from.now in
    let to = map (λ (name : Bor (List ℕ)). name.now) c.args.to.now in
    let b : SetQueryValue = record {
      sources = c.in-Ok-Some.stops.items;
      targets = c.in-Ok-Some-stops_named.stops.items;
      from = window.from;
      until = window.until;
      by = window.by;
    } in
    let asks : AsksBetween c.args.image.now.names from to c.args.window b = record {
      sources = rw c.in-Ok-Some.field-0-is at c.in-Ok-Some.ensures;
      targets = rw c.in-Ok-Some-stops_named.field-0-is at c.in-Ok-Some-stops_named.ensures;
      times = (refl, refl, refl);
    } in
    refused_between c.args.image.now from to window b c.in-Err-check_between.fault c.stops.ensures.kept asks
    (subst (λ (stops : ℕ). IsFirstFault stops b c.in-Err-check_between.fault) c.stops.ensures.stops c.in-Err-check_between.ensures)
