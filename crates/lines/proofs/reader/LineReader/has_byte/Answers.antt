use Rattle.std.proofs.Common.{[], ◌∷◌, ◌∙◌}
use Rattle.std.proofs.lemmas.Result.{err_from_is_err_and}
use Rattle.lines.proofs.ReadLemmas.{block_alone, block_read, byte_or_none}
use Rattle.lines.proofs.reader.LineReader.has_byte.Goals as goal

pub returns-in_err-fill : goal.returns-in_err-fill
returns-in_err-fill g c =
    let none = c.if-not-is_empty.ensures in
    let e = c.in_err-fill.ensures in
    let failed = err_from_is_err_and c.from_residual.result c.from_residual.ensures.1 in
    rw failed.1 ([] ∷ [], block_read _ [] none, (e.none ∙ block_alone _ [] none), (e.none, e.call))

pub returns : goal.returns
returns g c =
    let none = c.if-not-is_empty.ensures in
    let e = c.in_ok-fill.ensures in
    (_ ∷ [], block_read _ _ none, block_alone _ _ none, (byte_or_none _ _ _ c.is_empty-2.ensures e.end, e.call))
