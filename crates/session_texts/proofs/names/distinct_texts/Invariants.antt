use Rattle.std.proofs.Common.{take}
use Rattle.session_texts.specs.Names.{shown}
use Rattle.session_texts.proofs.NameLemmas.{AreRead}
use Rattle.session_texts.proofs.names.distinct_texts.Given as goal

abbrev pub invariant-loop-value : goal.invariant-loop-value
invariant-loop-value l = AreRead (take l.value-index l.values) (shown l.texts.items)
