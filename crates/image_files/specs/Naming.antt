-- How the names of an image are written.
use Rattle.std.specs.Prelude.{◌==◌, Bool, true, false, ℕ, zero, suc, List, [], ◌∷◌, ◌++◌, codes, map}
use Rattle.std.specs.List.{flat_map, slice_split}
use Rattle.timetable.specs.NamesValue.{NamesValue, TripNameValue}
use Rattle.image_layout.specs.Image.{ImageValue}
use Rattle.image_files.specs.declared.names.NameForm.{NameForm}

-- how names are written to a terminal, or to something else
abbrev pub form_at : Bool → NameForm
form_at true = NameForm.Shown
form_at false = NameForm.Raw

-- what is between the line feeds (10) of a text
abbrev pub parts_of : List ℕ → List (List ℕ)
parts_of text = slice_split (λ byte. byte == 10) text

-- the code of a line feed, as JSON writes it, before a part that isn't the first
abbrev pub code_before : ℕ → List ℕ
code_before zero = []
code_before (suc index) = codes "\\u000a"

-- parts with that code between two of them
unfoldable pub with_codes : List (List ℕ) → List ℕ
with_codes [] = []
with_codes (part ∷ parts) = part ++ flat_map (λ other. codes "\\u000a" ++ other) parts

-- a name in a form
abbrev pub name_in : NameForm → List ℕ → List ℕ
name_in NameForm.Raw name = name
name_in NameForm.Shown name = with_codes (parts_of name)

abbrev pub names_in : NameForm → NamesValue → NamesValue
names_in form names = record names {
  stops = map (name_in form) names.stops;
  trips = map (λ (trip : TripNameValue). record trip { name = name_in form trip.name }) names.trips;
}

-- an image as lines show it: with its names in a form
abbrev pub printed : NameForm → ImageValue → ImageValue
printed form image = record image { names = names_in form image.names }
