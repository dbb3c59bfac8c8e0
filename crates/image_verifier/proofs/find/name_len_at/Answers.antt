use Rattle.std.proofs.Common.{arith}
use Rattle.image_verifier.proofs.NameReads.{name_rises, length-name_of}
use Rattle.image_verifier.proofs.find.name_len_at.Goals as goal

pub overflow_sub-result : goal.overflow_sub-result
overflow_sub-result c = omega (arith, name_rises c.args.words.now c.args.name c.requires.accepted c.requires.within)

pub returns : goal.returns
returns c = omega (arith, length-name_of c.args.words.now c.args.name c.requires.accepted c.requires.within)
