use Rattle.std.proofs.Common.{◌++◌, length, string_bytes}
use Rattle.image_facts.specs.Entries.{rest_text}
use Rattle.image_facts.proofs.Lines.{at_end, none_left}
use Rattle.image_facts.proofs.days.append_entries.Goals as goal

pub returns : goal.returns
returns c =
    at_end c.args.form c.loop-day.count c.loop-day.rest.now (string_bytes c.loop-day.lines)
    (string_bytes c.args.lines.now ++ rest_text c.args.form 0 c.args.days.now)
    (none_left _ c.split_first.result (length c.loop-day.rest.now) c.split_first.ensures.cases c.in_default.not-Some)
    c.loop-day.invariant.lines
