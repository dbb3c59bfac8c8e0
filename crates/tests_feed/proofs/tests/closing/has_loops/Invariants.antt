use Rattle.std.proofs.Common.{◌<◌, ℕ}
use Rattle.timetable.specs.Legal.{HasFootpath}
use Rattle.tests_feed.proofs.tests.closing.has_loops.Given as goal

abbrev pub invariant-loop-stop : goal.invariant-loop-stop
invariant-loop-stop l = (s : ℕ) → s < l.stop → (secs : ℕ) × HasFootpath l.listed s s secs
