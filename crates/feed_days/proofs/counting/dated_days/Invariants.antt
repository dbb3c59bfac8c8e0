use Rattle.std.proofs.Common.{◌≡◌, map, take}
use Rattle.service_days.specs.Services.{dated}
use Rattle.feed_days.proofs.counting.dated_days.Given as goal

abbrev pub invariant-loop-day : goal.invariant-loop-day
invariant-loop-day l = l.dates.items ≡ map dated (take l.day-index l.days)
