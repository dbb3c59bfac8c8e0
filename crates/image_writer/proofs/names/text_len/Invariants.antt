use Rattle.std.proofs.Common.{◌≡◌}
use Rattle.image_layout.specs.Spelling.{name_list, byte_count_before}
use Rattle.image_writer.proofs.names.text_len.Given as goal

abbrev pub invariant-loop-i : goal.invariant-loop-i
invariant-loop-i l = l.bytes ≡ byte_count_before (name_list l.names) l.i
