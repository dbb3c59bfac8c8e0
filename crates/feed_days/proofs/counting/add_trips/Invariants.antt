use Rattle.std.proofs.Common.{◌≡◌, ◌+◌, ◌<◌, ◌≤◌, ℕ, get_or, if◌then◌else◌, length}
use Rattle.service_days.specs.Services.{service_runs}
use Rattle.service_days.specs.declared.day.DatedDay.{DatedDay}
use Rattle.feed_days.proofs.counting.add_trips.Given as goal

-- the trips are added to the counts of the days so far
abbrev pub invariant-loop-index : goal.invariant-loop-index
invariant-loop-index l = record {
  len : length l.counts ≡ length l.days;
  added : (i : ℕ) (d : DatedDay) → i < l.index → get_or l.counts i 0
      ≡ get_or l.fn.counts i 0 + (if service_runs l.service (get_or l.days i d).day then l.trips else 0);
  kept : (i : ℕ) → l.index ≤ i → get_or l.counts i 0 ≡ get_or l.fn.counts i 0;
}
