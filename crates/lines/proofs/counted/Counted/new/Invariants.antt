use Rattle.std.proofs.Common.{[]}
use Rattle.lines.proofs.counted.Counted.new.Given as goal

abbrev pub ghost-at : goal.ghost-at
ghost-at g a = []
