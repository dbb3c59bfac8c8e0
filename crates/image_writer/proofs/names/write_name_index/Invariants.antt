use Rattle.std.proofs.Common.{◌≡◌, ◌++◌, map}
use Rattle.std.specs.List.{range_with_len}
use Rattle.image_layout.specs.Spelling.{name_list, byte_count_before}
use Rattle.image_writer.proofs.names.write_name_index.Given as goal

abbrev pub invariant-loop-i : goal.invariant-loop-i
invariant-loop-i l =
    (l.bytes ≡ byte_count_before (name_list l.names) l.i)
    × (l.words.items ≡ l.initial.words.items ++ map (byte_count_before (name_list l.names)) (range_with_len 0 l.i))
