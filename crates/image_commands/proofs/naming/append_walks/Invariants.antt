use Rattle.std.proofs.Common.{◌≡◌, ◌++◌, take, string_bytes}
use Rattle.std.specs.List.{flat_map}
use Rattle.image_files.specs.Naming.{names_in}
use Rattle.image_commands.specs.Listing.{named_walk}
use Rattle.image_commands.proofs.naming.append_walks.Given as goal

abbrev pub invariant-loop-footpath : goal.invariant-loop-footpath
invariant-loop-footpath l = string_bytes l.lines ≡ string_bytes l.fn.lines
    ++ flat_map (named_walk (names_in l.names l.image.names)) (take l.footpath-index l.walk)
