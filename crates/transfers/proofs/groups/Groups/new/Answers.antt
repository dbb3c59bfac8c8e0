use Rattle.std.proofs.Common.{◌≡◌, ◌∙◌, sym, ap, subst, rules, List, ℕ, length, map}
use Rattle.std.specs.List.Sorted.{IsNonDecreasing}
use Rattle.std.proofs.lemmas.List.{length-map}
use Rattle.std.proofs.lemmas.List.Sorted.{IsNonDecreasingBy-from_sort_by_key}
use Rattle.transfers.specs.declared.groups.Member.{Member}
use Rattle.transfers.specs.Groups.{AreGroups}
use Rattle.transfers.proofs.MemberLemmas.{rising_keys, groups_are}
use Rattle.transfers.proofs.groups.Groups.new.Goals.{In_ok-keys}
use Rattle.transfers.proofs.groups.Groups.new.Goals as goal

keys_is : (c : goal.In_ok-keys) → c.in_ok-keys.keys.items ≡ map (λ (m : Member). m.key) c.sort_by_key.new.self.items
keys_is c = c.in_ok-keys.ensures.keys ∙ ap (λ (ms : List Member). map (λ (m : Member). m.key) ms) c.deref.ensures.value

numbers_is : (c : goal.In_ok-keys) → c.in_ok-keys.numbers.items ≡ map (λ (m : Member). m.number) c.sort_by_key.new.self.items
numbers_is c = c.in_ok-keys.ensures.numbers ∙ ap (λ (ms : List Member). map (λ (m : Member). m.number) ms) c.deref.ensures.value

pub invariant_of-result : goal.invariant_of-result
invariant_of-result c =
    let members : List Member = c.sort_by_key.new.self.items in
    let rises = IsNonDecreasingBy-from_sort_by_key (λ (m : Member). m.key) members c.in_ok-sort_by_key.ensures.sorted (λ a r q k. search rules) in
    let known = (goal.at.invariant_of-result c).In_ok-keys in
    record {
      same_length = ap (λ (xs : List ℕ). length xs) (keys_is known) ∙ length-map members (λ (m : Member). m.key)
          ∙ sym (length-map members (λ (m : Member). m.number)) ∙ sym (ap (λ (xs : List ℕ). length xs) (numbers_is known));
      rising = subst (λ (xs : List ℕ). IsNonDecreasing xs) (sym (keys_is known)) (rising_keys members rises);
    }

pub returns : goal.returns
returns c =
    let members : List Member = c.sort_by_key.new.self.items in
    let are : AreGroups c.args.keys.now (map (λ (m : Member). m.key) members) (map (λ (m : Member). m.number) members) =
    groups_are c.args.keys.now c.in_ok-members.members.items members c.in_ok-members.ensures c.in_ok-sort_by_key.ensures.permutation in
    let known = (goal.at.returns c).In_ok-keys in
    subst (λ (xs : List ℕ). AreGroups c.args.keys.now xs c.in_ok-keys.numbers.items) (sym (keys_is known))
    (subst (λ (xs : List ℕ). AreGroups c.args.keys.now (map (λ (m : Member). m.key) members) xs) (sym (numbers_is known)) are)
