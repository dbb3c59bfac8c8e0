use Rattle.std.proofs.Common.{[], ◌++◌, ◌∙◌, ap, string_bytes}
use Rattle.feed_commands.specs.Tabling.{services_json}
use Rattle.text_pieces.proofs.Joined.{three}
use Rattle.feed_commands.proofs.tables.json_of.Goals as goal

pub returns : goal.returns
returns c =
    three [] (string_bytes c.append_services_json.new.json) (string_bytes c.append_trips_json.new.json) (string_bytes c.put_text.new.out) _ _ _
    (c.in_ok-append_services_json.ensures ∙ ap (λ o. o ++ services_json c.args.counts) c.new-json.ensures.bytes)
    c.in_ok-append_trips_json.ensures c.in_ok-put_text.ensures
