use Rattle.std.proofs.Common.{[], refl}
use Rattle.matrix_rows.specs.Tables.{IsTableBegun}
use Rattle.image_files.proofs.Appended.{begun_by_nothing}
use Rattle.matrix_rows.proofs.Joins.{at_error}
use Rattle.matrix_rows.proofs.Targets.{no_targets}
use Rattle.matrix_rows.proofs.whole.write_table.Goals as goal

pub returns-in_err-names-clause-begun : goal.returns-in_err-names-clause-begun
returns-in_err-names-clause-begun g c = at_error {P = IsTableBegun c.args.table.now (g.W.Write.contents c.args.out.now) (g.W.Write.contents c.args.out.now)}
    c.from_residual.result (record {
      first = [];
      others = c.args.table.now.targets.now;
      rows = [];
      targets = refl;
      are = no_targets c.args.table.now [] refl;
      begun = begun_by_nothing _ _;
    })
