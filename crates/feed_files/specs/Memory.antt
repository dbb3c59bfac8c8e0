-- The bytes of files in memory.
use Rattle.std.specs.Prelude.{ℕ, List, Option, option_map, find}
use Rattle.std.specs.Borrow.{Bor}
use Rattle.std.specs.Str.{bytes_eq}

-- the bytes of the first file with a name, if there is one
abbrev pub held : List (Bor (List ℕ) × Bor (List ℕ)) → List ℕ → Option (List ℕ)
held files name = option_map (λ file. file.1.now) (find (λ file. bytes_eq file.0.now name) files)
