use Rattle.std.proofs.Common.{◌≡◌, map, take}
use Rattle.session_texts.specs.Telling.{points_of}
use Rattle.answer_replies.specs.Replying.{data_with_legs}
use Rattle.answer_replies.proofs.replying.points_with_legs.Given as goal

abbrev pub invariant-loop-departure : goal.invariant-loop-departure
invariant-loop-departure g l = points_of l.points ≡ map (data_with_legs l.image g.C.ShowsFigures.figures) (take l.departure-index l.departures)
