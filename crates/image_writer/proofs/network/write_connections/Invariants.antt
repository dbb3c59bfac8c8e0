use Rattle.std.proofs.Common.{◌≡◌, ◌++◌, take}
use Rattle.std.specs.List.{flat_map}
use Rattle.image_layout.specs.Spelling.{connection_words}
use Rattle.image_writer.proofs.network.write_connections.Given as goal

abbrev pub invariant-loop-connection : goal.invariant-loop-connection
invariant-loop-connection l = l.words.items ≡ l.initial.words.items ++ flat_map connection_words (take l.connection-index l.connections)
