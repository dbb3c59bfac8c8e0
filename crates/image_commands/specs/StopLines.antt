-- The stops that `csa stops` prints, as lines and as JSON.
use Rattle.std.specs.Prelude.{◌≡◌, ◌⊎◌, Bool, true, false, ℕ, List, [], ◌∷◌, ◌++◌, codes, decimal, map}
use Rattle.std.specs.List.{AllZip, flat_map, range_with_len}
use Rattle.timetable.specs.NamesValue.{NamesValue}
use Rattle.image_layout.specs.Image.{ImageValue}
use Rattle.image_facts.specs.Naming.{stop_bytes}
use Rattle.image_files.specs.Naming.{names_in}
use Rattle.image_files.specs.declared.names.NameForm.{NameForm}
use Rattle.feed_stations.specs.Finding.{IsIn}
use Rattle.text_pieces.specs.Json.{quoted_text, with_commas}
use Rattle.command_requests.specs.declared.requests.StopsRequest.{StopsRequest}

-- each stop below `stops`, with its number and its name
abbrev pub numbered : NamesValue → ℕ → List (ℕ × List ℕ)
numbered names stops = map (λ stop. (stop, stop_bytes names stop)) (range_with_len 0 stops)

-- a stop is found if the text is in its name
abbrev pub IsFound : List ℕ → ℕ × List ℕ → List ℕ → Type 0
IsFound text stop found = (IsIn text stop.1 × (found ≡ stop.0 ∷ [])) ⊎ ((¬ (IsIn text stop.1)) × (found ≡ []))

-- the stops below `stops` whose names have the text in them, in order
pub record AreFound (names : NamesValue) (text : List ℕ) (stops : ℕ) (found : List ℕ) : Type 0 where
  pub parts : List (List ℕ)
  pub each : AllZip (IsFound text) (numbered names stops) parts
  pub joined : found ≡ flat_map (λ part. part) parts

-- the line of a stop: its number and its name
unfoldable pub stop_line : NamesValue → ℕ → List ℕ
stop_line names stop = decimal stop ++ (codes " " ++ stop_bytes names stop) ++ codes "\n"

-- the same as an object of JSON
unfoldable pub stop_json : NamesValue → ℕ → List ℕ
stop_json names stop =
    quoted_text (codes "{\"id\":") (stop_bytes names stop) ++ (codes ",\"number\":" ++ decimal stop) ++ codes "}"

-- the text of some stops, as an array of JSON on one line, or as lines, with names in a form
abbrev pub stops_text : Bool → NameForm → NamesValue → List ℕ → List ℕ
stops_text true form names found = codes "[" ++ with_commas (map (stop_json names) found) ++ codes "]\n"
stops_text false form names found = flat_map (stop_line (names_in form names)) found

-- the text is that of the stops that are asked for, with names in this form in lines
abbrev pub AreStopsAsked : NameForm → ImageValue → StopsRequest → List ℕ → Type 0
AreStopsAsked form image request text =
    (found : List ℕ) × AreFound image.names request.text.now image.timetable.stops found × (text ≡ stops_text request.json form image.names found)
