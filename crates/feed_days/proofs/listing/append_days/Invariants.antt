use Rattle.std.proofs.Common.{◌≡◌, ◌++◌, string_bytes, take}
use Rattle.std.specs.List.{flat_map}
use Rattle.feed_days.specs.Days.{day_text}
use Rattle.feed_days.proofs.listing.append_days.Given as goal

abbrev pub invariant-loop-index : goal.invariant-loop-index
invariant-loop-index l = string_bytes l.lines ≡ string_bytes l.fn.lines ++ flat_map (day_text l.form l.feed) (take l.index l.days)
