use Rattle.std.proofs.Common.{◌≡◌, map, take}
use Rattle.transfers.proofs.groups.parts_of.Given as goal

abbrev pub invariant-loop-member : goal.invariant-loop-member
invariant-loop-member l = record {
  keys : l.keys.items ≡ map (λ member. member.key) (take l.member-index l.members);
  numbers : l.numbers.items ≡ map (λ member. member.number) (take l.member-index l.members);
}
