use Rattle.std.proofs.Common.{[], ◌++◌, ◌∙◌, ap, string_bytes}
use Rattle.feed_commands.specs.Building.{json_head}
use Rattle.text_pieces.proofs.Joined.{two}
use Rattle.feed_commands.proofs.build.json_of.Goals as goal

pub returns : goal.returns
returns c =
    two [] (string_bytes c.append_json_head.new.json) (string_bytes c.append_json_tail.new.json) _ _
    (c.in_ok-append_json_head.ensures ∙ ap (λ o. o ++ json_head c.args.report.now) c.new-json.ensures.bytes)
    c.in_ok-append_json_tail.ensures
