use Rattle.scan_state.specs.Origins.{found_from}
use Rattle.profile_scan.proofs.EverywhereLemmas.{AreListedTo}
use Rattle.profile_scan.proofs.to_any.lists_in_order.Given as goal

abbrev pub invariant-loop-stop : goal.invariant-loop-stop
invariant-loop-stop g l = AreListedTo (g.C.Criterion.rules l.criterion) (found_from l.origins) l.stop l.lists.items
