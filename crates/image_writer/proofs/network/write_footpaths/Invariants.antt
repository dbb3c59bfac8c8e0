use Rattle.std.proofs.Common.{◌≡◌, ◌++◌, take}
use Rattle.std.specs.List.{flat_map}
use Rattle.image_layout.specs.Spelling.{footpath_words}
use Rattle.image_writer.proofs.network.write_footpaths.Given as goal

abbrev pub invariant-loop-footpath : goal.invariant-loop-footpath
invariant-loop-footpath l = l.words.items ≡ l.initial.words.items ++ flat_map footpath_words (take l.footpath-index l.footpaths)
