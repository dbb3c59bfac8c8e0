use Rattle.std.proofs.Common.{◌∙◌, string_bytes}
use Rattle.feed_days.proofs.Listed.{text_more}
use Rattle.feed_days.proofs.listing.append_days.Goals as goal

pub loop-index-preserved : goal.loop-index-preserved
loop-index-preserved c =
    text_more c.args.form c.args.feed.now c.args.days.now c.deref-count-items.result.now c.loop-index.index _ _ (string_bytes c.args.lines.now)
    (string_bytes c.loop-index.lines) (string_bytes c.append_trips.new.lines) (c.deref-count-items.ensures.value ∙ c.in_ok-counts.ensures)
    c.loop-index-test.true c.loop-index.invariant c.in_ok-append_trips.ensures
