use Rattle.std.proofs.Common.{◌≡◌, ◌<◌, ℕ, get_or, length}
use Rattle.std.specs.List.{count_by}
use Rattle.service_days.specs.declared.day.DatedDay.{DatedDay}
use Rattle.feed_days.proofs.Ridden.{rides_below}
use Rattle.feed_days.proofs.counting.count_on_days.Given as goal

-- the trips of the services so far are counted
abbrev pub invariant-loop-index : goal.invariant-loop-index
invariant-loop-index l = record {
  len : length l.counts.items ≡ length l.days;
  each : (i : ℕ) (d : DatedDay) → i < length l.days → get_or l.counts.items i 0 ≡ count_by (rides_below l.services (get_or l.days i d) l.index) l.ridden;
}
