use Rattle.std.proofs.Common.{◌≡◌, take}
use Rattle.sources.proofs.decoded.decode_connections.Given as goal

abbrev pub invariant-loop-i : goal.invariant-loop-i
invariant-loop-i l = l.connections.items ≡ take l.i l.image.timetable.connections
