use Rattle.std.proofs.Common.{◌∙◌, inl, inr, refl, rules}
use Rattle.image_commands.specs.Matrices.{IsTableOf}
use Rattle.image_commands.proofs.MatrixLemmas.{can_be_made, ends_written, table_asked, unasked_table}
use Rattle.image_commands.proofs.matrix.run.Given as given
use Rattle.image_commands.proofs.matrix.run.Goals.{After-table_of-table}
use Rattle.image_commands.proofs.matrix.run.Goals as goal

asked : (g : given.Over) (c : After-table_of-table g)
    → IsTableOf (g.H.ImageDisk.may_hold c.args.rt.now) c.args.names c.args.image.now c.args.request c.table_of-table.result
asked g c =
    table_asked (g.H.ImageDisk.may_hold c.args.rt.now) c.args.names c.args.image.now c.args.request c.table_of-table.result
    c.in-Ok.stops.targets.items c.in-Ok.stops.sources.items c.table_of-table.ensures.image
    (c.table_of-table.ensures.stops.0 ∙ c.deref.ensures.value) (c.table_of-table.ensures.stops.1 ∙ c.deref-in-Ok.ensures.value)
    c.table_of-table.ensures.times c.table_of-table.ensures.form c.in-Ok.ensures.targets c.in-Ok.ensures.sources
    c.table_of-table.ensures.names

pub write_unread-requires : goal.write_unread-requires
write_unread-requires g c = (
  search rules,
  can_be_made (g.H.ImageDisk.may_hold c.args.rt.now) c.args.names c.args.image.now c.args.request c.table_of-table.result
      (asked g (goal.at.write_unread-requires g c).After-table_of-table) c.if-not-has_window.ensures,
)

pub returns-in-Ok-clause-printed : goal.returns-in-Ok-clause-printed
returns-in-Ok-clause-printed g c = λ is. (
  c.if-not-has_window.ensures,
  c.write_unread.ensures.apart is,
  (c.table_of-table.result, asked g (goal.at.returns-in-Ok-clause-printed g c).After-table_of-table, c.write_unread.ensures.shown is),
)

pub returns-in-Ok-clause-refused : goal.returns-in-Ok-clause-refused
returns-in-Ok-clause-refused g c = λ is. absurd ((ends_written _ c.write_unread.ensures.status).0 is)

pub returns-in-Ok-clause-unlisted : goal.returns-in-Ok-clause-unlisted
returns-in-Ok-clause-unlisted g c = λ is. absurd ((ends_written _ c.write_unread.ensures.status).1 is)

pub returns-in-Ok-clause-cut : goal.returns-in-Ok-clause-cut
returns-in-Ok-clause-cut g c = λ is.
    inr (
      c.if-not-has_window.ensures,
      inr (inr (c.table_of-table.result, asked g (goal.at.returns-in-Ok-clause-cut g c).After-table_of-table, c.write_unread.ensures.cut is)),
    )

pub returns-in-Ok-clause-spent : goal.returns-in-Ok-clause-spent
returns-in-Ok-clause-spent g c = λ is.
    inr (
      c.if-not-has_window.ensures,
      (c.table_of-table.result, asked g (goal.at.returns-in-Ok-clause-spent g c).After-table_of-table, c.write_unread.ensures.spent is),
    )

pub returns-in-Err-clause-status : goal.returns-in-Err-clause-status
returns-in-Err-clause-status g c =
    (unasked_table (g.H.ImageDisk.may_hold c.args.rt.now) (g.H.ImageDisk.may_fail c.args.rt.now) c.args.request c.args.image.now _ c.in-Err.ensures.status).0

pub returns-in-Err-clause-printed : goal.returns-in-Err-clause-printed
returns-in-Err-clause-printed g c = λ is.
    absurd ((unasked_table (g.H.ImageDisk.may_hold c.args.rt.now) (g.H.ImageDisk.may_fail c.args.rt.now) c.args.request c.args.image.now _
    c.in-Err.ensures.status).1 is)

pub returns-in-Err-clause-refused : goal.returns-in-Err-clause-refused
returns-in-Err-clause-refused g c = λ is. inr (c.if-not-has_window.ensures, c.in-Err.ensures.status.unknown is, refl)

pub returns-in-Err-clause-unlisted : goal.returns-in-Err-clause-unlisted
returns-in-Err-clause-unlisted g c = λ is. (c.if-not-has_window.ensures, c.in-Err.ensures.status.bad is, refl)

pub returns-in-Err-clause-cut : goal.returns-in-Err-clause-cut
returns-in-Err-clause-cut g c = λ is. inr (c.if-not-has_window.ensures, inl (c.in-Err.ensures.status.unread is, refl))

pub returns-in-Err-clause-spent : goal.returns-in-Err-clause-spent
returns-in-Err-clause-spent g c = λ is. inl refl

pub returns-else-status-eq-REFUSED-clause-cut : goal.returns-else-status-eq-REFUSED-clause-cut
returns-else-status-eq-REFUSED-clause-cut g c = λ is.
    let printed = c.print_refusal-status.ensures in
    inl (printed.failed is, c.if-not-has_window.ensures, printed.begun is)
