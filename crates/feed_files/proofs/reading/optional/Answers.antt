-- The rows are those of what the one read gave.
use Rattle.std.proofs.Common.{Some, ap, sym, ◌∙◌}
use Rattle.feed_files.proofs.ReadLemmas.{read_one, same_bytes}
use Rattle.feed_files.proofs.reading.optional.Goals as goal

pub returns-in-Ok-Some-clause-read : goal.returns-in-Ok-Some-clause-read
returns-in-Ok-Some-clause-read g c = read_one c.rows_of.result c.rows_of.ensures.failed c.in-Ok-Some.ensures.read

pub returns-in-Ok-Some-clause-ok : goal.returns-in-Ok-Some-clause-ok
returns-in-Ok-Some-clause-ok g c content gave =
    rw (same_bytes (c.in-Ok-Some.ensures.gave content gave) c.in-Ok-Some.field-0-is ∙ ap Some (sym c.deref.ensures.value)) c.rows_of.ensures.ok

pub returns-in-Ok-Some-clause-err : goal.returns-in-Ok-Some-clause-err
returns-in-Ok-Some-clause-err g c content gave =
    rw (same_bytes (c.in-Ok-Some.ensures.gave content gave) c.in-Ok-Some.field-0-is ∙ ap Some (sym c.deref.ensures.value)) c.rows_of.ensures.err

pub returns-in-Ok-None-clause-ok : goal.returns-in-Ok-None-clause-ok
returns-in-Ok-None-clause-ok g c content gave = rw (same_bytes (c.in-Ok-None.ensures.gave content gave) c.in-Ok-None.field-0-is) tt
