use Rattle.std.proofs.Common.{◌≡◌, ◌++◌, ◌∷◌, [], rules}
use Rattle.gtfs_rows.specs.FaultNumber.{file_name}
use Rattle.feed_files.specs.Files.{given}
use Rattle.feed_files.proofs.ReadLemmas.{gave_one}
use Rattle.feed_files.proofs.reading.bytes_of.Goals as goal

pub returns-in-Ok-clause-gave : goal.returns-in-Ok-clause-gave
returns-in-Ok-clause-gave g c content gave =
    let reads = g.F.FeedFiles.words.reads in
    let grown : reads c.read.new.self ≡ reads c.args.files.now ++ given (file_name g.T.TableFile.TABLE) c.in-Ok.bytes ∷ [] = search rules in
    gave_one g.F.FeedFiles.words content g.T.TableFile.TABLE c.in-Ok.bytes _ _ grown gave
