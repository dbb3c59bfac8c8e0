-- What an image has, as an object of JSON on one line: its keys are the words of the lines, in the order of their bytes.
use Rattle.std.specs.Prelude.{◌≡◌, ◌++◌, List, ℕ, codes, decimal, length}
use Rattle.image_layout.specs.Image.{ImageValue}
use Rattle.image_layout.specs.Spelling.{text}
use Rattle.image_facts.specs.Base.{IsUtc, base_member}
use Rattle.image_facts.specs.Days.{HasDays, trip_days}
use Rattle.image_facts.specs.Facts.{file_bytes}
use Rattle.text_pieces.specs.declared.form.Form.{Form}

-- the base in seconds, the bytes of the file, and how many connections and footpaths there are
unfoldable pub sizes_json : ImageValue → List ℕ
sizes_json image =
    ((base_member image.names.base ++ (codes ",\"bytes\":" ++ decimal (file_bytes image)))
    ++ (codes ",\"connections\":" ++ decimal (length image.timetable.connections)))
    ++ (codes ",\"footpaths\":" ++ decimal (length image.timetable.footpaths))

-- the layout, the bytes of the names, and how many stops and trips there are
unfoldable pub names_json : ImageValue → List ℕ
names_json image =
    (((codes ",\"layout\":" ++ decimal image.layout) ++ (codes ",\"name-bytes\":" ++ decimal (length (text image.names))))
    ++ (codes ",\"stops\":" ++ decimal image.timetable.stops)) ++ (codes ",\"trips\":" ++ decimal image.timetable.trips)

-- these, the trips of each service day, and the base as a date and a time
pub record IsFactsJson (image : ImageValue) (json : List ℕ) : Type 0 where
  pub days : List ℕ
  pub utc : List ℕ
  pub has_days : HasDays Form.Json (trip_days image.names) days
  pub has_utc : IsUtc Form.Json image.names.base utc
  pub parts : json ≡ (((sizes_json image ++ names_json image) ++ days) ++ utc) ++ codes "}\n"
