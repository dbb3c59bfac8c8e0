use Rattle.std.proofs.Common.{◌≡◌, ◌++◌, map, take}
use Rattle.session_texts.specs.Telling.{legs_of}
use Rattle.answer_replies.specs.Legs.{walk_leg}
use Rattle.answer_replies.proofs.legs.add_walks.Given as goal

abbrev pub invariant-loop-footpath : goal.invariant-loop-footpath
invariant-loop-footpath l = legs_of l.legs ≡ legs_of l.fn.legs ++ map (walk_leg l.image.names) (take l.footpath-index l.walk)
