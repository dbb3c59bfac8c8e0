-- How long something took, as it is printed.
use Rattle.std.specs.Prelude.{ℕ, List, ◌++◌, ◌/◌, ◌%◌, Option, Some, None, codes, decimal}
use Rattle.std.specs.Duration.{as_nanos}
use Rattle.std.specs.declared.time.Duration.{Duration}

-- seconds, and thousandths of a second in three digits
unfoldable pub parts_text : ℕ → ℕ → List ℕ
parts_text seconds thousandths =
    (codes " seconds " ++ decimal seconds) ++ (codes "." ++ decimal (thousandths / 100)) ++ decimal (thousandths / 10 % 10)
    ++ decimal (thousandths % 10)

-- the seconds and whole thousandths of a time, if it is known, and otherwise a hyphen
abbrev pub seconds_text : Option Duration → List ℕ
seconds_text None = codes " seconds -"
seconds_text (Some lasted) = parts_text (as_nanos lasted / 1000000000) (as_nanos lasted % 1000000000 / 1000000)
