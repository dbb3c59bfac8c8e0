use Rattle.std.proofs.Common.{[], ◌++◌, ◌∙◌, ap, string_bytes}
use Rattle.feed_commands.specs.Tabling.{trips_text}
use Rattle.text_pieces.proofs.Joined.{three}
use Rattle.feed_commands.proofs.tables.line_of.Goals as goal

pub returns : goal.returns
returns c =
    three [] (string_bytes c.append_trips.new.line) (string_bytes c.append_services.new.line) (string_bytes c.put_text.new.out) _ _ _
    (c.in_ok-append_trips.ensures ∙ ap (λ o. o ++ trips_text c.args.counts) c.new-line.ensures.bytes)
    c.in_ok-append_services.ensures c.in_ok-put_text.ensures
