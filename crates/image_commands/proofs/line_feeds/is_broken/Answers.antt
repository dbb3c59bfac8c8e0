use Rattle.std.proofs.Common.{arith}
use Rattle.image_commands.proofs.line_feeds.is_broken.Goals as goal

pub name_byte-requires-clause-byte : goal.name_byte-requires-clause-byte
name_byte-requires-clause-byte c = λ name at. omega (arith, c.loop-j-test.true, c.name_len-len.ensures name at)
