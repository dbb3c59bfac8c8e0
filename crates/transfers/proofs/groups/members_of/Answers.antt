use Rattle.std.proofs.Common.{◌+◌, List, sym, subst, arith}
use Rattle.std.proofs.lemmas.Option.{slice_get-get_or}
use Rattle.transfers.specs.Groups.{AreMembers}
use Rattle.transfers.specs.declared.groups.Member.{Member}
use Rattle.transfers.proofs.MemberLemmas.{members_more}
use Rattle.transfers.proofs.groups.members_of.Goals as goal

pub loop-number-preserved : goal.loop-number-preserved
loop-number-preserved c =
    subst (λ (members : List Member). AreMembers c.args.keys.now (c.loop-number.number + 1) members) (sym c.in_ok-add_member.ensures)
    (members_more c.args.keys.now c.loop-number.number c.loop-number.members.items _ (slice_get-get_or c.args.keys.now c.loop-number.number _
    (omega arith)) c.loop-number.invariant)
