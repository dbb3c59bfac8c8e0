-- What `csa info` prints.
use Rattle.std.specs.Prelude.{Bool, true, false, ℕ, List}
use Rattle.image_layout.specs.Image.{ImageValue}
use Rattle.image_facts.specs.Facts.{AreFacts}
use Rattle.image_facts.specs.Json.{IsFactsJson}

-- the text is that of what the image has, as JSON or as lines
abbrev pub IsInfo : Bool → ImageValue → List ℕ → Type 0
IsInfo true image text = IsFactsJson image text
IsInfo false image text = AreFacts image text
