-- The lines that say what an image has.
use Rattle.std.specs.Prelude.{◌≡◌, ◌++◌, ◌*◌, ℕ, List, codes, decimal, length}
use Rattle.image_layout.specs.Image.{ImageValue}
use Rattle.image_layout.specs.Spelling.{image_in, text}
use Rattle.image_facts.specs.Base.{HasBase}
use Rattle.image_facts.specs.Days.{HasDays, trip_days}
use Rattle.text_pieces.specs.declared.form.Form.{Form}

-- a word, which ends in a space, and a number
unfoldable pub number_line : List ℕ → ℕ → List ℕ
number_line word number = (word ++ decimal number) ++ codes "\n"

-- how many bytes the image has: four for each word
abbrev pub file_bytes : ImageValue → ℕ
file_bytes image = 4 * length (image_in image.layout image.timetable image.names)

-- the layout, and how many bytes the image has
unfoldable pub file_text : ImageValue → List ℕ
file_text image =
    number_line (codes "layout ") image.layout ++ number_line (codes "bytes ") (file_bytes image)

-- the counts of the image, and how many bytes its names have together
unfoldable pub counts_text : ImageValue → List ℕ
counts_text image =
    (((number_line (codes "stops ") image.timetable.stops ++ number_line (codes "trips ") image.timetable.trips)
    ++ number_line (codes "connections ") (length image.timetable.connections))
    ++ number_line (codes "footpaths ") (length image.timetable.footpaths))
    ++ number_line (codes "name-bytes ") (length (text image.names))

-- the lines of an image: its file, its base, its counts, and its service days with their trips
pub record AreFacts (image : ImageValue) (lines : List ℕ) : Type 0 where
  pub base : List ℕ
  pub days : List ℕ
  pub has_base : HasBase image.names.base base
  pub has_days : HasDays Form.Lines (trip_days image.names) days
  pub parts : lines ≡ ((file_text image ++ base) ++ counts_text image) ++ days
