use Rattle.std.proofs.Common.{[], ◌++◌, ◌∙◌, ap, string_bytes}
use Rattle.feed_commands.specs.Building.{made_text, report_line}
use Rattle.text_pieces.proofs.Joined.{three}
use Rattle.feed_commands.proofs.build.line_of.Goals as goal

pub returns : goal.returns
unfolding report_line
returns c =
    three [] (string_bytes c.append_made.new.line) (string_bytes c.append_changed.new.line) (string_bytes c.put_text.new.out) _ _ _
    (c.in_ok-append_made.ensures ∙ ap (λ o. o ++ made_text c.args.report.now) c.new-line.ensures.bytes)
    c.in_ok-append_changed.ensures c.in_ok-put_text.ensures
