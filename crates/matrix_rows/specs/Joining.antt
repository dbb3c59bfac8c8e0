-- Stop_ids with a tab between two of them.
use Rattle.std.specs.Prelude.{ℕ, zero, suc, List, [], ◌∷◌}

-- a tab before a text that isn't the first
abbrev pub tab_before : ℕ → List ℕ
tab_before zero = []
tab_before (suc index) = 9 ∷ []
