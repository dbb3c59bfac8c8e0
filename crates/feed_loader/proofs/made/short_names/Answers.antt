use Rattle.std.proofs.Common.{◌≡◌, ◌<◌, ◌≤◌, ◌⊎◌, arith, ap, inl, inr, refl, rules, ◌∙◌, List, map, FitsSigned, w64}
use Rattle.std.proofs.lemmas.Int.{to_z-of_z}
use Rattle.std.specs.String.{string_bytes}
use Rattle.timetable.specs.declared.limits.TheConstants.{MAX_NAME_BYTES}
use Rattle.gtfs_rows.specs.declared.fault.Table.TheVariants as tables
use Rattle.gtfs_tables.specs.declared.tables.Stop.{Stop}
use Rattle.gtfs_tables.specs.declared.tables.Trip.{Trip}
use Rattle.feed_loader.specs.Faults.{too_many}
use Rattle.feed_loader.specs.Loaded.{run_name}
use Rattle.feed_loader.specs.Refused.{AreNamesRefused, IsNamesMemory}
use Rattle.feed_loader.specs.declared.fault.LoadFault.{LoadFault}
use Rattle.feed_loader.proofs.NameLemmas.{are_names, length_of_text, names_made}
use Rattle.feed_loader.proofs.made.short_names.Goals.{After-count_name_bytes}
use Rattle.feed_loader.proofs.made.short_names.Goals as goal

pub unreachable-requires : goal.unreachable-requires
unreachable-requires c =
    c.started_or_not.ensures c.args.plan.now.zone c.args.plan.now.first_day c.requires.0 c.requires.1 c.in_default.ensures.err.1

-- the names that there would be, and how long they are
refused : (c : After-count_name_bytes) (fault : LoadFault)
    → (IsNamesMemory fault × (c.count_name_bytes.result ≤ MAX_NAME_BYTES)) ⊎ ((fault ≡ too_many tables.Trips) × (MAX_NAME_BYTES < c.count_name_bytes.result))
    → AreNamesRefused c.args.feed.now c.args.plan.now c.args.runs.now fault
refused c fault why =
    let made = names_made c.args.feed.now c.args.plan.now c.args.runs.now c.in-Ok.base c.in-Ok.ensures.ok in
    record {
      names = made.0;
      names_are = made.1;
      why = elim why [
        | inl memory ↦ inl (memory.0, omega (arith, made.2, c.count_name_bytes.ensures, memory.1))
        | inr long ↦ inr (long.0, omega (arith, made.2, c.count_name_bytes.ensures, long.1))
      ];
    }

pub returns-then-count_name_bytes-clause-err : goal.returns-then-count_name_bytes-clause-err
returns-then-count_name_bytes-clause-err c =
    refused (goal.at.returns-then-count_name_bytes-clause-err c).After-count_name_bytes c.too_many.result
    (inr (c.too_many.ensures, omega (arith, c.if-count_name_bytes.true)))

pub returns-in_default-stop_names-clause-err : goal.returns-in_default-stop_names-clause-err
returns-in_default-stop_names-clause-err c =
    refused (goal.at.returns-in_default-stop_names-clause-err c).After-count_name_bytes c.out_of_memory.result
    (inl (inl c.out_of_memory.ensures, omega (arith, c.if-count_name_bytes.false)))

pub returns-in_default-run_names-clause-err : goal.returns-in_default-run_names-clause-err
returns-in_default-run_names-clause-err c =
    refused (goal.at.returns-in_default-run_names-clause-err c).After-count_name_bytes c.out_of_memory-in_default-run_names.result
    (inl (inr c.out_of_memory-in_default-run_names.ensures, omega (arith, c.if-count_name_bytes.false)))

pub returns-clause-ok : goal.returns-clause-ok
returns-clause-ok c =
    let fits : FitsSigned w64 c.in-Ok.base = search rules in
    let stops = c.in-Ok-stop_names.ensures ∙ ap (λ (xs : List Stop). map (λ (stop : Stop). string_bytes stop.id) xs) c.deref.ensures.value in
    let trips = c.in-Ok-run_names.ensures ∙ ap (λ (xs : List Trip). map (run_name xs) c.args.runs.now) c.deref-2.ensures.value in
    rw (to_z-of_z w64 c.in-Ok.base fits)
    (are_names c.args.feed.now c.args.plan.now c.args.runs.now _ c.in-Ok.base c.in-Ok.ensures.ok refl
    stops trips)

pub returns-clause-short : goal.returns-clause-short
returns-clause-short c =
    let stops = c.in-Ok-stop_names.ensures ∙ ap (λ (xs : List Stop). map (λ (stop : Stop). string_bytes stop.id) xs) c.deref.ensures.value in
    let trips = c.in-Ok-run_names.ensures ∙ ap (λ (xs : List Trip). map (run_name xs) c.args.runs.now) c.deref-2.ensures.value in
    let long = length_of_text c.args.feed.now c.args.runs.now (record { base = c.in-Ok.base; stops = _; trips = _ }) stops trips in
    omega (arith, long, c.count_name_bytes.ensures, c.if-count_name_bytes.false)
