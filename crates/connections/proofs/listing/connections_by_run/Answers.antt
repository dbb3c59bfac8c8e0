use Rattle.std.proofs.Common.{◌≡◌, ℕ, ℤ, pos, length, get_or, All, None, Some, sym, ap, ◌∙◌, subst, arith, rules, FitsSigned, w64, to_z, of_z}
use Rattle.std.specs.List.{slice_get}
use Rattle.std.proofs.lemmas.Int.{to_z-of_z}
use Rattle.std.proofs.lemmas.List.{get_or_default}
use Rattle.std.proofs.lemmas.Option.{slice_get-get_or}
use Rattle.service_days.specs.Zones.{IsDayStart}
use Rattle.service_days.specs.declared.zone.Zone.{Zone}
use Rattle.connections.specs.Building.{AddsRun, AreByRun}
use Rattle.connections.specs.declared.days.ServiceDay.{ServiceDay}
use Rattle.connections.specs.declared.runs.Run.{Run}
use Rattle.connections.proofs.FinalLemmas.{fault_of_hops}
use Rattle.connections.proofs.ListSteps.{by_run_more, by_run_none}
use Rattle.connections.proofs.listing.connections_by_run.Goals.{After-start_of-start}
use Rattle.connections.proofs.listing.connections_by_run.Goals as goal

abbrev no_day : ServiceDay
no_day = record { day = record { year = 0; month = 0; day = 0 }; start = pos 0 }

abbrev no_run : Run
no_run = record { day = record { year = 0; month = 0; day = 0 }; trip = 0; repeat = 0; start = None }

pub loop-number-init : goal.loop-number-init
loop-number-init c zone base d e starts = rw c.requires.empty (by_run_none c.args.feed.now zone base c.args.runs.now)

pub start_of-start-requires : goal.start_of-start-requires
start_of-start-requires c = c.requires.days c.loop-number.number no_run c.loop-number-test.true

pub list_run-requires-clause-trip : goal.list_run-requires-clause-trip
list_run-requires-clause-trip c = c.requires.trips c.loop-number.number no_run c.loop-number-test.true

abbrev first_start : (c : goal.After-start_of-start) → ℤ
first_start c = (get_or c.args.days.now 0 no_day).start

base_is : (c : goal.After-start_of-start) (base : ℤ) (d : ServiceDay) → FitsSigned w64 (first_start c)
    → base ≡ (get_or c.args.days.now 0 d).start → to_z w64 (of_z w64 (first_start c)) ≡ base
base_is c base d fits e =
    to_z-of_z w64 (first_start c) fits ∙ ap (λ (x : ServiceDay). x.start) (get_or_default c.args.days.now 0 no_day d c.requires.some) ∙ sym e

abbrev run_of : (c : goal.After-start_of-start) → Run
run_of c = get_or c.args.runs.now c.loop-number.number no_run

run_at : (c : goal.After-start_of-start) → slice_get c.args.runs.now c.loop-number.number ≡ Some (run_of c)
run_at c = slice_get-get_or c.args.runs.now c.loop-number.number no_run c.loop-number-test.true

starts_then : (c : goal.After-start_of-start) (zone : Zone) → All (λ (d : ServiceDay). IsDayStart zone d.day d.start) c.args.days.now
    → IsDayStart zone (run_of c).day (to_z w64 (of_z w64 c.start_of-start.result))
starts_then c zone starts =
    let fits : FitsSigned w64 c.start_of-start.result = search rules in
    subst (λ (z : ℤ). IsDayStart zone (run_of c).day z) (sym (to_z-of_z w64 c.start_of-start.result fits)) (c.start_of-start.ensures zone starts)

pub returns-in-Err-clause-err : goal.returns-in-Err-clause-err
returns-in-Err-clause-err c zone base d e starts =
    let known = (goal.at.returns-in-Err-clause-err c).After-start_of-start in
    let none : ServiceDay = record { day = record { year = 0; month = 0; day = 0 }; start = pos 0 } in
    let first : ℤ = (get_or c.args.days.now 0 none).start in
    let fits : FitsSigned w64 first = search rules in
    fault_of_hops c.args.feed.now zone base (to_z w64 (of_z w64 (first_start known))) c.args.runs.now c.loop-number.number (run_of known) c.in-Err.fault
    (base_is known base d fits e) (run_at known) (c.loop-number.invariant zone base d e starts).inside
    (c.in-Err.ensures.err zone (starts_then known zone starts))

pub loop-number-preserved : goal.loop-number-preserved
loop-number-preserved c zone base d e starts =
    let known = (goal.at.loop-number-preserved c).After-start_of-start in
    let none : ServiceDay = record { day = record { year = 0; month = 0; day = 0 }; start = pos 0 } in
    let first : ℤ = (get_or c.args.days.now 0 none).start in
    let fits : FitsSigned w64 first = search rules in
    let adds = c.in-Ok.ensures.ok zone (starts_then known zone starts) in
    by_run_more c.args.feed.now zone base c.args.runs.now c.loop-number.number (run_of known) c.loop-number.connections.items
    c.list_run.new.connections.items (run_at known) (c.loop-number.invariant zone base d e starts)
    (subst (λ (z : ℤ). AddsRun c.args.feed.now zone z (run_of known) c.loop-number.number c.loop-number.connections.items c.list_run.new.connections.items)
    (base_is known base d fits e) adds)

pub returns-clause-ok : goal.returns-clause-ok
returns-clause-ok c zone base d e starts =
    let end : c.loop-number.number ≡ length c.args.runs.now =
    (let over = c.loop-number-test.false in let under = c.loop-number.auto.number-end in omega (arith, over, under)) in
    subst (λ (n : ℕ). AreByRun c.args.feed.now zone base c.args.runs.now n c.loop-number.connections.items) end (c.loop-number.invariant zone base d e starts)
