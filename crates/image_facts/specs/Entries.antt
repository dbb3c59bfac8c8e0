-- The lines, or the members of an object of JSON, that are still to come for a list of days, when some entries of its first day were counted already.
use Rattle.std.specs.Prelude.{ℕ, List, [], ◌∷◌, ◌++◌, ◌+◌, ◌==◌, Bool, true, not, if◌then◌else◌}
use Rattle.image_facts.specs.Days.{day_text}
use Rattle.text_pieces.specs.declared.form.Form.{Form}

-- the list goes on with another day, or ends
abbrev pub is_last_of : ℕ → List ℕ → Bool
is_last_of day [] = true
is_last_of day (next ∷ rest) = not (next == day)

-- the text for the rest of a list: a line or a member wherever the day changes or the list ends, with the number of entries up to there
unfoldable pub rest_text : Form → ℕ → List ℕ → List ℕ
rest_text form counted [] = []
rest_text form counted (day ∷ rest) =
    if is_last_of day rest then day_text form (counted + 1) day ++ rest_text form 0 rest else rest_text form (counted + 1) rest
