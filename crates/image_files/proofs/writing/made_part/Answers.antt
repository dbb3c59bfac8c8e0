use Rattle.std.proofs.Common.{◌∙◌}
use Rattle.image_files.proofs.writing.made_part.Goals as goal

-- a fault of the file is one of a file at that path beside the other
pub returns-clause-written : goal.returns-clause-written
returns-clause-written g c =
    λ file has. (_, (c.args.number, c.requires, c.as_str.ensures.value ∙ c.in_ok-beside.ensures), c.in_ok-file.ensures.written file has)
