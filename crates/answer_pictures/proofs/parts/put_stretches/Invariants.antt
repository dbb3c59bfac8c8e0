use Rattle.std.proofs.Common.{◌≡◌, ◌++◌, take, string_bytes}
use Rattle.std.specs.List.{flat_map}
use Rattle.answer_pictures.specs.Pictures.{stretch_text}
use Rattle.answer_pictures.proofs.parts.put_stretches.Given as goal

abbrev pub invariant-loop-stretch : goal.invariant-loop-stretch
invariant-loop-stretch l = string_bytes l.out ≡ string_bytes l.fn.out ++ flat_map (stretch_text l.axis l.exact) (take l.stretch-index l.stretches)
