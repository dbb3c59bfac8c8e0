use Rattle.std.proofs.Common.{◌≡◌, ◌∙◌, refl, None, Some, true, length-set, arith}
use Rattle.std.specs.String.{string_bytes}
use Rattle.std.proofs.lemmas.Grind.{common_steps}
use Rattle.reasoning.proofs.FirstLemmas.{first_below-start}
use Rattle.gtfs_rows.specs.declared.fault.Table.TheVariants.{Frequencies}
use Rattle.gtfs_rows.specs.declared.fault.FaultKind.TheVariants.{UnknownId}
use Rattle.gtfs_tables.specs.Names.{held_at}
use Rattle.gtfs_tables.specs.Rows.{frequency_fault}
use Rattle.gtfs_tables.proofs.FirstLemmas.{row_fine, row_wrong}
use Rattle.gtfs_tables.proofs.RowLemmas.{marked_more}
use Rattle.gtfs_tables.proofs.links.repeating.Goals as goal

pub loop-at-init : goal.loop-at-init
loop-at-init c = record { fine = first_below-start _; len = grind (arith, common_steps); marked = grind (arith, common_steps) }

pub loop-at-preserved : goal.loop-at-preserved
loop-at-preserved c =
    let known : held_at c.args.indices.now (string_bytes c.index-frequencies-at.result.trip) ≡ Some c.in-Some.index.now = grind (arith, common_steps) in
    let judged : frequency_fault (held_at c.args.indices.now) c.index-frequencies-at.result ≡ None = rw known refl in
    record {
      fine = row_fine Frequencies (frequency_fault (held_at c.args.indices.now)) c.args.frequencies.now c.loop-at.at
          c.index-frequencies-at.result (omega arith) c.index-frequencies-at.is judged c.loop-at.invariant.fine;
      len = rw c.mark.ensures (length-set c.loop-at.repeats.items c.in-Some.index.now true ∙ c.loop-at.invariant.len);
      marked = rw c.mark.ensures (marked_more (held_at c.args.indices.now) c.args.frequencies.now c.loop-at.at
          c.in-Some.index.now c.args.trips c.index-frequencies-at.result c.loop-at.repeats.items (omega arith)
          c.index-frequencies-at.is known c.loop-at.invariant.len c.loop-at.invariant.marked);
    }

pub returns-in_default-get-clause-err : goal.returns-in_default-get-clause-err
returns-in_default-get-clause-err c = λ _.
    let known : held_at c.args.indices.now (string_bytes c.index-frequencies-at.result.trip) ≡ None = grind (arith, common_steps) in
    let judged : frequency_fault (held_at c.args.indices.now) c.index-frequencies-at.result ≡ Some UnknownId = rw known refl in
    rw c.fault_at.ensures (row_wrong Frequencies (frequency_fault (held_at c.args.indices.now)) c.args.frequencies.now
    c.loop-at.at c.index-frequencies-at.result UnknownId (omega arith) c.index-frequencies-at.is judged
    c.loop-at.invariant.fine)
