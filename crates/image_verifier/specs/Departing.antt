-- The departures of an image, and those that were read.
use Rattle.std.specs.Prelude.{ℕ, List}
use Rattle.image_layout.specs.Image.{ImageValue}
use Rattle.image_verifier.specs.declared.departures.Departures.{Departures}

-- the image that the departures belong to
abbrev pub image_of : Departures → ImageValue
image_of departures = departures.image.now

-- the indices of the departures that were read, in this order
abbrev pub reads_of : Departures → List ℕ
reads_of departures = departures.reads
