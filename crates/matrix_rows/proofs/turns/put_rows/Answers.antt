use Rattle.std.proofs.Common.{ℕ, Contains, length, refl, subst, sym}
use Rattle.std.specs.Global.{Vec}
use Rattle.std.proofs.lemmas.List.Elements.{Contains-get_or}
use Rattle.std.proofs.lemmas.Option.{slice_get_read}
use Rattle.matrix_rows.specs.Tables.{CanBeMade}
use Rattle.matrix_rows.proofs.Runs.{rows_pushed}
use Rattle.matrix_rows.proofs.turns.put_rows.Goals as goal

pub rows_to-requires : goal.rows_to-requires
rows_to-requires c =
    let run = c.args.run.now in
    let target = c.index-run-index.result in
    let there : Contains run target =
    subst (λ (t : Vec ℕ). Contains run t) (sym c.index-run-index.is) (Contains-get_or run c.args.index target c.requires.index) in
    subst (CanBeMade c.args.table.now.plain) (sym c.deref.ensures.value) (c.requires.can target there)

pub returns : goal.returns
returns c =
    let run = c.args.run.now in
    let target = c.index-run-index.result in
    rows_pushed c.args.table.now.plain run c.args.made.now.items c.push.new.self.items _ target c.deref.result.now c.in_ok-push.ensures.items
    (slice_get_read run (length run) c.args.index target refl c.requires.index c.index-run-index.is) c.deref.ensures.value c.in_ok-text.ensures
