use Rattle.std.proofs.Common.{◌≡◌, ◌++◌, ℕ, List, take, string_bytes}
use Rattle.answer_pictures.specs.Pictures.{AreDrawn}
use Rattle.answer_pictures.proofs.drawing.put_lines.Given as goal

abbrev pub invariant-loop-line : goal.invariant-loop-line
invariant-loop-line l =
    (drawn : List ℕ) × AreDrawn l.axis l.exact (take l.line-index l.lines) drawn × (string_bytes l.out ≡ string_bytes l.fn.out ++ drawn)
