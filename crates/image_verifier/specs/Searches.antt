-- Which departures a search reads.
use Rattle.std.specs.Prelude.{◌≡◌, ℕ, ◌-◌, ◌<◌, ◌≤◌, ◌^◌, List, ◌++◌, length, Contains}
use Rattle.timetable.specs.TimetableValue.{TimetableValue}

-- the number has at most this many binary digits; zero has none
abbrev pub HasDigits : ℕ → ℕ → Type 0
HasDigits number digits = number < 2 ^ digits

-- what a search noted, after earlier reads, when it found the index `first`
pub record FindsByFew (t : TimetableValue) (first : ℕ) (before after : List ℕ) : Type 0 where
  -- the indices of the departures that it read
  pub read : List ℕ
  pub noted : after ≡ before ++ read
  -- they are no more than the number of connections has binary digits
  pub few : (digits : ℕ) → HasDigits (length t.connections) digits → length read ≤ digits
  -- the departure at `first` is among them, and so is the one before it, if there is such a departure
  pub has_first : first < length t.connections → Contains read first
  pub has_last_before : 0 < first → Contains read (first - 1)
