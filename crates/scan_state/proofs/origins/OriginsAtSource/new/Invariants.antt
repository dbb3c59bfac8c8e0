use Rattle.scan_state.proofs.OriginLemmas.{AreNew}
use Rattle.scan_state.proofs.origins.OriginsAtSource.new.Given as goal

abbrev pub invariant-loop-stop : goal.invariant-loop-stop
invariant-loop-stop g l = AreNew l.criterion l._stop l.each.items
