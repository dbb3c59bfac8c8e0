-- The head, the places and the end.
use Rattle.std.proofs.Common.{◌≡◌, ◌++◌, ◌∙◌, ap, codes, rules, string_bytes}
use Rattle.feed_loader.specs.Faults.{fault_name, fault_number}
use Rattle.command_endings.specs.Refusing.{refusal_head, refusal_text}
use Rattle.feed_commands.specs.Refusing.{feed_positions}
use Rattle.feed_commands.proofs.refusing.feed_line.Goals as goal

pub returns : goal.returns
unfolding refusal_text
returns c =
    let fault = c.args.fault in
    let head : string_bytes c.in_ok-line.line ≡ refusal_head (fault_number fault) (fault_name fault) = search rules in
    c.in_ok-put_text.ensures ∙ ap (λ line. line ++ codes "\n") (c.in_ok-put_feed_positions.ensures ∙ ap (λ line. line ++ feed_positions fault) head)
