use Rattle.std.proofs.Common.{◌≡◌, [], ◌∷◌}
use Rattle.scan_state.specs.Adding.{StandsBetween, boardings_by, each_of}
use Rattle.by_arrival.specs.ByArrival.{BoardsByArrival, arrival_rules, ridden_point}
use Rattle.by_arrival.proofs.by_arrival.ByArrival.board_walks.Given as goal

abbrev pub invariant-loop-walk_index : goal.invariant-loop-walk_index
invariant-loop-walk_index g l =
    BoardsByArrival (λ walks. walks ≡ (g.S.ConnSource.timetable l.source).footpaths) (λ _. ⊥)
    (λ stop tags. each_of (StandsBetween (g.S.ConnSource.timetable l.source).footpaths l.fn.walks.start l.walk_index)
    (boardings_by arrival_rules tags l.hop.place l.hop.connection stop (ridden_point l.ride ∷ []))) l.fn.self l.self
