use Rattle.std.proofs.Common.{◌<◌, ℕ, get_or}
use Rattle.timetable.specs.declared.network.Footpath.{Footpath}
use Rattle.tests_feed.proofs.tests.closing.are_in_range.Given as goal

abbrev pub invariant-loop-path : goal.invariant-loop-path
invariant-loop-path l = (k : ℕ) (d : Footpath) → k < l.path-index → ((get_or l.listed k d).from < l.stops) × ((get_or l.listed k d).to < l.stops)
