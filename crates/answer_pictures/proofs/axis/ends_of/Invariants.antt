use Rattle.std.proofs.Common.{All, take}
use Rattle.answer_pictures.specs.Pictures.{IsBetween}
use Rattle.answer_pictures.proofs.axis.ends_of.Given as goal

abbrev pub invariant-loop-line : goal.invariant-loop-line
invariant-loop-line l = All (IsBetween l.first l.last) (take l.line-index l.lines)
