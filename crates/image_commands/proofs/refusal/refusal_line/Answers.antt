-- The head, the places and the end.
use Rattle.std.proofs.Common.{◌≡◌, ◌++◌, ◌∙◌, ap, codes, rules, string_bytes}
use Rattle.command_endings.specs.Refusing.{refusal_head, refusal_text}
use Rattle.image_commands.specs.Refusing.{numbered_refusal, refusal_positions}
use Rattle.image_commands.proofs.refusal.refusal_line.Goals as goal

pub returns : goal.returns
unfolding refusal_text
returns c =
    let refusal = c.args.refusal in
    let head : string_bytes c.in_ok-line.line ≡ refusal_head (numbered_refusal refusal).0 (numbered_refusal refusal).1 = search rules in
    c.in_ok-put_text.ensures ∙ ap (λ line. line ++ codes "\n") (c.in_ok-put_positions.ensures ∙ ap (λ line. line ++ refusal_positions refusal) head)
