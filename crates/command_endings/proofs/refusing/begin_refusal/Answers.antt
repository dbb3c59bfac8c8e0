-- The number and the name.
use Rattle.std.proofs.Common.{◌≡◌, [], ◌++◌, codes, decimal, rules, string_bytes}
use Rattle.text_pieces.proofs.Joined.{two}
use Rattle.command_endings.specs.Refusing.{refusal_head}
use Rattle.command_endings.proofs.refusing.begin_refusal.Goals as goal

pub returns : goal.returns
unfolding refusal_head
returns c =
    let number : string_bytes c.put_number.new.out ≡ [] ++ (codes "refused " ++ decimal c.args.number) = search rules in
    two [] (string_bytes c.put_number.new.out) (string_bytes c.put_word.new.out) _ _ number c.in_ok-put_word.ensures
