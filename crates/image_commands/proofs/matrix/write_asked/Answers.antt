-- Why a table was cut short: the output has a fault, or the table's file can't be written.
use Rattle.std.proofs.Common.{◌≡◌, ◌≢◌, ◌∙◌, arith, codes, inl, inr, refl, rules}
use Rattle.image_commands.proofs.MatrixLemmas.{at_failure, at_kind}
use Rattle.image_commands.proofs.matrix.write_asked.Goals as goal

pub returns-then-eq-clause-cut : goal.returns-then-eq-clause-cut
returns-then-eq-clause-cut g c = λ is.
    let same : c.args.request.out.now ≡ codes "-" = search rules in
    let table = c.print_table.ensures in
    let done = c.printed.ensures in
    inr (
      at_kind _ c.print_table.result c.printed.result done.done done.cause table.failed is,
      record {
        begun = λ _. at_failure _ c.print_table.result c.printed.result done.done table.begun is;
        put = λ other. absurd (other same);
        counted = λ other. absurd (other same);
      },
    )

pub returns-in-Ok-clause-cut : goal.returns-in-Ok-clause-cut
returns-in-Ok-clause-cut g c = λ is.
    let other : c.args.request.out.now ≢ codes "-" = search rules in
    inr (
      c.print_counts.ensures.failed is,
      record {
        begun = λ same. absurd (other same);
        put = λ _. c.in-Ok.ensures.put;
        counted = λ _. c.print_counts.ensures.begun is;
      },
    )

pub returns-in-Err-clause-cut : goal.returns-in-Err-clause-cut
returns-in-Err-clause-cut g c = λ is.
    let other : c.args.request.out.now ≢ codes "-" = search rules in
    let done = c.report_unwritten.ensures in
    inl (
      (other, inr (c.in-Err.ensures.unwritten (λ none. let out = done.memory (c.kind.ensures ∙ none) in omega (arith, is, out)))),
      refl,
    )
