-- What a disk says of the files that are written on it.
use Rattle.std.specs.Prelude.{ℕ, List, Option}

-- `None` stands for contents that aren't known
pub record OutFiles : Type 1 where
  -- at this path may be something that isn't a plain file
  pub special : List ℕ → Type 0
  -- at this path may be a plain file, or nothing
  pub plain : List ℕ → Type 0
  -- a file that was made or opened at this path may have these contents then
  pub may_begin : List ℕ → Option (List ℕ) → Type 0
  -- a file that was made or opened at the first path, and is at the second, may have these contents there
  pub may_stand : List ℕ → List ℕ → Option (List ℕ) → Type 0
  -- a file may not be made at this path, or not be written once it is made there
  pub may_not_make : List ℕ → Type 0
  -- what is at this path may not be opened, or not be written once it is
  pub may_not_open : List ℕ → Type 0
  -- a file may not be moved to this path
  pub may_not_move : List ℕ → Type 0
  -- at these two paths may be one and the same plain file
  pub may_be_one : List ℕ → List ℕ → Type 0
  -- at these two paths may be no such file
  pub may_be_apart : List ℕ → List ℕ → Type 0

-- nothing is known
abbrev pub any_files : OutFiles
any_files = record {
  special = λ path. Unit {0};
  plain = λ path. Unit {0};
  may_begin = λ path contents. Unit {0};
  may_stand = λ write_path path contents. Unit {0};
  may_not_make = λ path. Unit {0};
  may_not_open = λ path. Unit {0};
  may_not_move = λ path. Unit {0};
  may_be_one = λ path other. Unit {0};
  may_be_apart = λ path other. Unit {0};
}
