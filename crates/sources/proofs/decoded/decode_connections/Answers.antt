use Rattle.std.proofs.Common.{List, ◌∙◌, ◌<◌, length, arith}
use Rattle.timetable.specs.declared.network.Connection.{Connection}
use Rattle.image_verifier.proofs.Unpacking.{next_taken}
use Rattle.sources.proofs.decoded.decode_connections.Goals as goal

pub loop-i-preserved : goal.loop-i-preserved
loop-i-preserved c =
    let cs = c.args.image.now.timetable.connections in
    let lt : c.loop-i.i < length cs = omega (arith, c.loop-i-test.true, c.len-count.ensures) in
    ◌∙◌ {A = List Connection} c.in_ok-push.ensures.items
    (next_taken cs c.loop-i.connections.items c.loop-i.i c.connection.result lt c.loop-i.invariant
    c.connection.ensures)
