use Rattle.std.proofs.Common.{◌≡◌, ◌++◌, take, string_bytes}
use Rattle.std.specs.List.{flat_map}
use Rattle.answer_pictures.specs.Pictures.{grid_text}
use Rattle.answer_pictures.proofs.drawing.put_grids.Given as goal

abbrev pub invariant-loop-time : goal.invariant-loop-time
invariant-loop-time l = string_bytes l.out ≡ string_bytes l.fn.out ++ flat_map (grid_text l.axis l.bottom) (take l.time-index l.marks)
