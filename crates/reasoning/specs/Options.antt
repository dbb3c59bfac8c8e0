-- Options of numbers.
use Rattle.std.specs.Prelude.{ℕ, ◌==◌, Bool, false, Option, Some, None}

-- whether the option has this number
abbrev pub is_that_number : Option ℕ → ℕ → Bool
is_that_number None number = false
is_that_number (Some other) number = other == number
