use Rattle.footpaths.specs.Index.{IsIndexUpTo}
use Rattle.footpaths.proofs.index.Index.new.Given as goal

abbrev pub invariant-loop-last : goal.invariant-loop-last
invariant-loop-last l = IsIndexUpTo l.listed l.last-index l.first.items l.paths.items
