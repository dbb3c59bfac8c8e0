use Rattle.std.proofs.Common.{◌≡◌, ◌++◌, take, string_bytes}
use Rattle.std.specs.List.{flat_map}
use Rattle.answer_pictures.specs.Pictures.{tick_text}
use Rattle.answer_pictures.proofs.drawing.put_ticks.Given as goal

abbrev pub invariant-loop-time : goal.invariant-loop-time
invariant-loop-time l = string_bytes l.out ≡ string_bytes l.fn.out ++ flat_map (tick_text l.axis) (take l.time-index l.marks)
