use Rattle.std.proofs.Common.{inl, inr, rules}
use Rattle.image_files.proofs.writing.new_file.Goals as goal

-- a fault of the file is one of a file at its path, or beside that
pub returns-then-is_special-clause-written : goal.returns-then-is_special-clause-written
returns-then-is_special-clause-written g c =
    let special : (g.H.OutDisk.files c.args.rt.now).special c.args.path.now = search rules in
    λ file has. inr (inr (inl (special, c.in_ok-file.ensures.written file has)))

pub returns-clause-written : goal.returns-clause-written
returns-clause-written g c =
    let plain : (g.H.OutDisk.files c.args.rt.now).plain c.args.path.now = search rules in
    λ file has. inl (plain, c.in_ok-made.ensures.written file has)
