-- Which connections a question reads.
use Rattle.std.specs.Prelude.{◌≡◌, ◌≢◌, ℕ, zero, suc, ◌≤◌, List, [], ◌++◌, length, reverse, take}
use Rattle.timetable.specs.TimetableValue.{TimetableValue}
use Rattle.profile_scan.specs.Window.{window}
use Rattle.scan_state.specs.SetQuery.{SetQueryValue, pair_of}

-- the connections of the window, which the two times alone determine
abbrev pub window_between : TimetableValue → SetQueryValue → List ℕ
window_between t b = window t (pair_of b 0 0)

-- a list, several times
abbrev pub repeated : ℕ → List ℕ → List ℕ
repeated zero xs = []
repeated (suc n) xs = repeated n xs ++ xs

-- the whole window was read, from the last connection to the first: at least once if there is a target, and at most once for each
pub record ReadsWindow (t : TimetableValue) (b : SetQueryValue) (old new : List ℕ) : Type 0 where
  pub scans : ℕ
  pub some : b.targets ≢ [] → 1 ≤ scans
  pub most : scans ≤ length b.targets
  pub log : new ≡ old ++ repeated scans (reverse (window_between t b))

-- it was read for some targets, and for one more a first part of it
pub record ReadsPart (t : TimetableValue) (b : SetQueryValue) (old new : List ℕ) : Type 0 where
  pub scans : ℕ
  pub part : ℕ
  pub most : scans ≤ length b.targets
  pub log : new ≡ (old ++ repeated scans (reverse (window_between t b))) ++ take part (reverse (window_between t b))
