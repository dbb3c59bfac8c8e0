-- Where lines end.
use Rattle.std.specs.Prelude.{ℕ, ◌==◌, Bool}

-- a line feed
abbrev pub is_line_end : ℕ → Bool
is_line_end byte = byte == 10
