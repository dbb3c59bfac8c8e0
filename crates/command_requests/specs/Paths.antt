-- Where an image is.
use Rattle.std.specs.Prelude.{ℕ, List}
use Rattle.command_requests.specs.declared.requests.ImageRequest.{ImageRequest}
use Rattle.command_requests.specs.declared.requests.ImageRequest.TheVariants.{Verify, Info, Journey, Profile, Departures, Stops, Upgrade}

-- the path of the image
abbrev pub path_of : ImageRequest → List ℕ
path_of (Verify image) = image.now
path_of (Info request) = request.image.now
path_of (Journey request) = request.image.now
path_of (Profile request) = request.image.now
path_of (Departures request) = request.image.now
path_of (Stops request) = request.image.now
path_of (Upgrade request) = request.image.now
