-- A file that is missing was asked for, too.
use Rattle.std.proofs.Common.{refl}
use Rattle.feed_files.proofs.ReadLemmas.{read_one}
use Rattle.feed_files.proofs.ReadingLemmas.{no_rows_weaker, required_fault}
use Rattle.feed_files.proofs.reading.required.Goals as goal

pub returns-in-Ok-None-clause-read : goal.returns-in-Ok-None-clause-read
returns-in-Ok-None-clause-read g c = read_one _ (λ before. refl) c.in-Ok-None.ensures.read

pub returns-in-Err-clause-err : goal.returns-in-Err-clause-err
returns-in-Err-clause-err g c content gave =
    no_rows_weaker _ _ _ c.in-Err.fault (required_fault g.T.TableFile.tells (content g.T.TableFile.TABLE)) (c.in-Err.ensures.err content gave)
