use Rattle.std.proofs.Common.{map, subst}
use Rattle.matrix_rows.specs.Repeated.{AreTheRepeated, IsRepeated}
use Rattle.matrix_rows.proofs.Repeats.{repeated_apart}
use Rattle.matrix_rows.proofs.lists.has_repeat.Goals as goal

pub returns-in-Some : goal.returns-in-Some
returns-in-Some c =
    let names = map (λ text. text.now) c.args.texts.now in
    let list_indices = c.in-Some._indices in
    let is : IsRepeated names list_indices.0 list_indices.1 = subst (AreTheRepeated names) c.in-Some.is c.in_ok-_indices.ensures in
    repeated_apart names list_indices.0 list_indices.1 is
