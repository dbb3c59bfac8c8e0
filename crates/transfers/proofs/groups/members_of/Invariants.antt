use Rattle.transfers.specs.Groups.{AreMembers}
use Rattle.transfers.proofs.groups.members_of.Given as goal

abbrev pub invariant-loop-number : goal.invariant-loop-number
invariant-loop-number l = AreMembers l.keys l.number l.members.items
