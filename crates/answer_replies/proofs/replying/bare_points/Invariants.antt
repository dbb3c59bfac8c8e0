use Rattle.std.proofs.Common.{◌≡◌, map, take}
use Rattle.session_texts.specs.Telling.{points_of}
use Rattle.answer_replies.specs.Replying.{bare_data}
use Rattle.answer_replies.proofs.replying.bare_points.Given as goal

abbrev pub invariant-loop-departure : goal.invariant-loop-departure
invariant-loop-departure g l = points_of l.points ≡ map (bare_data g.C.ShowsFigures.figures) (take l.departure-index l.departures)
