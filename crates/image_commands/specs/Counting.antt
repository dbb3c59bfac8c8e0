-- The line of counts that `csa verify` and `csa upgrade` print of an image.
use Rattle.std.specs.Prelude.{ℕ, List, ◌++◌, codes, decimal, length}
use Rattle.image_layout.specs.Image.{ImageValue}

-- how many stops, trips, connections and footpaths there are
unfoldable pub numbers_text : ℕ → ℕ → ℕ → ℕ → List ℕ
numbers_text stops trips connections footpaths =
    (codes "ok stops " ++ decimal stops) ++ (codes " trips " ++ decimal trips) ++ (codes " connections " ++ decimal connections)
    ++ (codes " footpaths " ++ decimal footpaths)

-- the line of the image's counts
abbrev pub counts_line : ImageValue → List ℕ
counts_line image =
    numbers_text image.timetable.stops image.timetable.trips (length image.timetable.connections) (length image.timetable.footpaths)
    ++ codes "\n"
