use Rattle.std.proofs.Common.{◌∙◌, ℕ, List, Result, Ok, Err, IfErr, ap, map, length, subst, sym}
use Rattle.std.specs.List.{AllZip, flat_map}
use Rattle.journeys.specs.Questions.{IsNamed}
use Rattle.matrix_rows.specs.Listed.{IsUnnamed, ids_in}
use Rattle.matrix_rows.specs.Sought.{AreFoundBelow}
use Rattle.matrix_rows.proofs.Answering.{on_ok}
use Rattle.matrix_rows.proofs.Sought.{all_named, unnamed}
use Rattle.matrix_rows.proofs.lists.sets_of_lines.Goals as goal

on_err : {T E : Type 0} (P Q : E → Type 0) (r : Result T E) → ((x : E) → P x → Q x) → IfErr r P → IfErr r Q
on_err P Q (Ok x) each p = tt
on_err P Q (Err e) each p = each e p

pub returns-clause-sets : goal.returns-clause-sets
returns-clause-sets c =
    let names = c.args.image.now.names in
    let listed = map (λ line. line.now) c.args.listed.now in
    let ids = map (λ id. id.now) c.deref.result.now in
    let found = c.find_stops.new.found in
    on_ok _ (λ sets. AllZip (λ line set. AllZip (IsNamed names) (ids_in line) set.items) listed sets.items) c.sets_found.result
    (λ sets zipped. all_named names ids listed _ found sets.items (c.in_ok-find_stops.ensures ids c.in_ok-found.ensures) zipped)
    c.sets_found.ensures.sets

pub returns-clause-fault : goal.returns-clause-fault
returns-clause-fault c =
    let names = c.args.image.now.names in
    let listed = map (λ line. line.now) c.args.listed.now in
    let ids = map (λ id. id.now) c.deref.result.now in
    let found = c.find_stops.new.found in
    let looked : AreFoundBelow names (flat_map ids_in listed) (length names.stops) found =
    subst (λ (n : ℕ). AreFoundBelow names (flat_map ids_in listed) n found) (sym c.stops.ensures.kept.names.stop_names)
    (subst (λ (xs : List (List ℕ)). AreFoundBelow names xs c.args.image.now.timetable.stops found)
    (ap (map (λ id. id.now)) c.deref.ensures.value ∙ c.in_ok-ids.ensures)
    (c.in_ok-find_stops.ensures ids c.in_ok-found.ensures)) in
    on_err _ (IsUnnamed names listed) c.sets_found.result (λ fault is. unnamed names listed found fault looked is) c.sets_found.ensures.missing
