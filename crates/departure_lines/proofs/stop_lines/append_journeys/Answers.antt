use Rattle.std.proofs.Common.{◌++◌, ◌∙◌, List, ℕ, Option, length, ap, sym, refl, string_bytes}
use Rattle.image_facts.specs.Naming.{stop_bytes}
use Rattle.scan_state.specs.SetQuery.{secs_of}
use Rattle.profile_scan.specs.Everywhere.{asked_to_any, criterion_to_any, walk_to_any}
use Rattle.scan_state.specs.Origins.{from_stop}
use Rattle.image_files.specs.Naming.{printed}
use Rattle.departure_lines.specs.Lines.{journeys_text}
use Rattle.departure_lines.proofs.Stops.{has_journeys, journeys_in_form, journeys_shown}
use Rattle.departure_lines.proofs.stop_lines.append_journeys.Goals as goal

pub returns : goal.returns
returns g c =
    let shown = c.args.shown.now in
    let form = c.args.form in
    let image = printed shown.names shown.image.now in
    let t = shown.image.now.timetable in
    let q = from_stop (asked_to_any shown.profiles.now) c.args.stop in
    let old = criterion_to_any shown.profiles.now in
    let departures = c.in_ok-departures.departures.items in
    let lines = string_bytes c.args.lines.now in
    let name = stop_bytes image.names c.args.stop in
    let text = journeys_text g.C.ShowsFigures.figures form name departures (secs_of (walk_to_any shown.profiles.now c.args.stop)) in
    let added = c.in_ok-put_journeys.ensures
    ∙ ap (λ them. lines ++ journeys_text g.C.ShowsFigures.figures form c.as_str.result.now them c.direct_secs-walk.result) c.deref.ensures.value
    ∙ ap (λ (called : List ℕ). lines ++ journeys_text g.C.ShowsFigures.figures form called departures c.direct_secs-walk.result)
    (c.as_str.ensures.value ∙ c.in_ok-name.ensures)
    ∙ ap (λ (walk : Option ℕ). lines ++ journeys_text g.C.ShowsFigures.figures form name departures walk) c.direct_secs-walk.ensures in
    journeys_shown g.C.Criterion.rules g.C.ShowsFigures.figures _ image shown.profiles.now shown.criterion.now c.args.stop departures c.len.result
    text lines (string_bytes c.put_journeys.new.lines)
    (c.len.ensures ∙ sym c.deref.ensures.len ∙ ap length c.deref.ensures.value)
    c.requires.stop c.requires.differ c.requires.same c.requires.answered c.in_ok-departures.ensures.points
    (journeys_in_form g.C.ShowsFigures.figures _ form image _ c.args.stop _ _ text
    (has_journeys g.C.Criterion.rules t q old shown.criterion.now departures _ c.requires.same c.in_ok-departures.ensures.journeys refl)) added
