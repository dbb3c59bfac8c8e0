use Rattle.std.proofs.Common.{length, ◌-◌, ◌≤◌}
use Rattle.csa_program.specs.Showing.{IsPlain}
use Rattle.csa_program.proofs.showing.plain_len.Given as goal

abbrev pub invariant-loop-count : goal.invariant-loop-count
invariant-loop-count l = (l.count ≤ length l.bytes) × IsPlain l.bytes l.count

abbrev pub decreases-loop-count : goal.decreases-loop-count
decreases-loop-count l = length l.bytes - l.count
