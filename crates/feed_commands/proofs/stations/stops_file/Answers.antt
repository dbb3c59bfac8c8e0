use Rattle.std.proofs.Common.{inl, inr, refl, ap}
use Rattle.feed_loader.specs.declared.fault.LoadFault.TheVariants.{Table as OfTable}
use Rattle.gtfs_rows.specs.declared.fault.FaultKind.TheVariants.{MissingFile}
use Rattle.gtfs_rows.specs.declared.fault.Table.TheVariants.{Stops}
use Rattle.feed_commands.proofs.MissingFile.{fault_of_parts}
use Rattle.feed_commands.proofs.stations.stops_file.Goals as goal

pub returns-in-Ok-Some-clause-bytes : goal.returns-in-Ok-Some-clause-bytes
returns-in-Ok-Some-clause-bytes g c =
    (c.in-Ok-Some.bytes, (c.args.rt.now, c.folder_state-state.result, rw (c.in-Ok-Some.field-0-is, c.file_name.ensures) at c.in-Ok-Some.ensures.gives), refl)

pub returns-in-Ok-None-clause-refused : goal.returns-in-Ok-None-clause-refused
returns-in-Ok-None-clause-refused g c = λ _.
    inl (
      (c.args.rt.now, c.folder_state-state.result, rw (c.in-Ok-None.field-0-is, c.file_name.ensures) at c.in-Ok-None.ensures.gives),
      ap OfTable (fault_of_parts c.missing.result Stops 0 MissingFile c.missing.ensures.file c.missing.ensures.row c.missing.ensures.kind),
    )

pub returns-in-Err-Failed-clause-refused : goal.returns-in-Err-Failed-clause-refused
returns-in-Err-Failed-clause-refused g c = λ _.
    inr (inl ((c.args.rt.now, c.folder_state-state.result, rw (c.in-Err-Failed.field-0-is, c.file_name.ensures) at c.in-Err-Failed.ensures.gives), refl))
