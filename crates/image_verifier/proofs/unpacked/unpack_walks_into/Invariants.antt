use Rattle.std.proofs.Common.{◌≡◌, ◌-◌, ◌++◌, map}
use Rattle.std.specs.List.{range_with_len}
use Rattle.image_layout.specs.Fields.{foot_index_of}
use Rattle.image_layout.specs.Shown.{footpath_of}
use Rattle.image_verifier.proofs.unpacked.unpack_walks_into.Given as goal

abbrev pub invariant-loop-position : goal.invariant-loop-position
invariant-loop-position l =
    l.footpaths.items ≡ l.initial.footpaths.items
    ++ map (footpath_of l.words l.stop) (range_with_len (foot_index_of l.words l.stop)
    (l.position - foot_index_of l.words l.stop))
