-- Counts that stop once there are too many.
use Rattle.std.specs.Prelude.{◌≡◌, ◌<◌, ◌≤◌, ℕ}

-- the count is n unless it is more than `most`, and then n is more, too
pub record IsCount (most count n : ℕ) : Type 0 where
  pub exact : count ≤ most → count ≡ n
  pub many : most < count → most < n
