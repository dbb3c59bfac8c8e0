use Rattle.std.proofs.Common.{map, take}
use Rattle.std.specs.List.{AllZip}
use Rattle.journeys.specs.Questions.{IsNamed}
use Rattle.station_answers.proofs.naming.stops_named.Given as goal

abbrev pub invariant-loop-name : goal.invariant-loop-name
invariant-loop-name l = AllZip (IsNamed l.image.names) (take l.name-index (map (λ name. name.now) l.names)) l.stops.items
