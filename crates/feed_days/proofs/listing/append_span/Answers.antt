use Rattle.std.proofs.Common.{◌++◌, ◌∙◌, List, ap, string_bytes}
use Rattle.std.specs.Prelude.{Option}
use Rattle.std.specs.List.{flat_map}
use Rattle.gtfs_rows.specs.declared.values.Day.{Day}
use Rattle.feed_days.specs.Days.{day_text, span_text, unlisted_text}
use Rattle.text_pieces.proofs.Joined.{four}
use Rattle.feed_days.proofs.listing.append_span.Goals as goal

pub returns : goal.returns
unfolding span_text
returns c =
    four (string_bytes c.args.lines.now) (string_bytes c.append_first.new.lines) (string_bytes c.append_last.new.lines)
    (string_bytes c.append_days.new.lines) (string_bytes c.append_unlisted.new.lines) _ _ _ _
    c.in_ok-append_first.ensures c.in_ok-append_last.ensures
    (c.in_ok-append_days.ensures
    ∙ ap (λ (days : List Day). string_bytes c.append_last.new.lines ++ flat_map (day_text c.args.form c.args.feed.now) days)
    (c.deref.ensures.value ∙ c.in_ok-unlisted.ensures.days))
    (c.in_ok-append_unlisted.ensures
    ∙ ap (λ (day : Option Day). string_bytes c.append_days.new.lines ++ unlisted_text c.args.form day) c.in_ok-unlisted.ensures.unlisted)
