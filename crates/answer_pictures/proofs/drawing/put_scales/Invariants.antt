use Rattle.std.proofs.Common.{◌≡◌, ◌++◌, take, string_bytes}
use Rattle.std.specs.List.{flat_map}
use Rattle.answer_pictures.specs.Pictures.{scale_text}
use Rattle.answer_pictures.proofs.drawing.put_scales.Given as goal

abbrev pub invariant-loop-y : goal.invariant-loop-y
invariant-loop-y l = string_bytes l.out ≡ string_bytes l.fn.out ++ flat_map (scale_text l.axis l.marks) (take l.y-index l.heights)
