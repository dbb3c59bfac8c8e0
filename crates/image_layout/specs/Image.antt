-- Which words are the image of which timetable and names.
use Rattle.std.specs.Prelude.{FitsSigned, ◌≡◌, ℕ, ◌<◌, ◌≤◌, ◌^◌, true, List, length, All}
use Rattle.std.specs.Int.{w64}
use Rattle.std.specs.Str.{IsUtf8}
use Rattle.timetable.specs.declared.limits.TheConstants.{MAX_NAME_BYTES}
use Rattle.image_layout.specs.declared.layout.TheConstants.{FIRST_LAYOUT}
use Rattle.timetable.specs.TimetableValue.{TimetableValue}
use Rattle.timetable.specs.NamesValue.{NamesValue, TripNameValue}
use Rattle.timetable.specs.Legal.{At, IsLegal}
use Rattle.timetable.specs.Limits.{IsWithinLimits}
use Rattle.image_layout.specs.Offsets.{is_layout}
use Rattle.image_layout.specs.Fields.{layout_of}
use Rattle.image_layout.specs.Spelling.{name_list, text, image_in}

-- names that an image of the timetable can hold
pub record NamesFit (t : TimetableValue) (n : NamesValue) : Type 0 where
  -- one for each stop and each trip
  pub stop_names : length n.stops ≡ t.stops
  pub trip_names : length n.trips ≡ t.trips
  -- each is UTF-8
  pub utf8 : (i : ℕ) (name : List ℕ) → At (name_list n) i name → IsUtf8 name
  -- together they are no longer than the limit
  pub bytes : length (text n) ≤ MAX_NAME_BYTES
  -- each service day and each repeat fits a word, and the base two words
  pub days : (i : ℕ) (trip : TripNameValue) → At n.trips i trip → trip.day < 2 ^ 32
  pub repeats : (i : ℕ) (trip : TripNameValue) → At n.trips i trip → trip.repeat < 2 ^ 32
  pub base : FitsSigned w64 n.base

-- a legal timetable and its names, within the limits
pub record HasImage (t : TimetableValue) (n : NamesValue) : Type 0 where
  pub legal : IsLegal t
  pub limits : IsWithinLimits t
  pub names : NamesFit t n

-- no trip is a repeat, as the first layout requires
abbrev pub AreFirst : NamesValue → Type 0
AreFirst n = All (λ (trip : TripNameValue). trip.repeat ≡ 0) n.trips

-- the words are the sections of the timetable and the names, set end to end, in the layout that the words name
pub record IsImage (w : List ℕ) (t : TimetableValue) (n : NamesValue) : Type 0 where
  pub can_be : HasImage t n
  pub layout : is_layout (layout_of w) ≡ true
  pub first : layout_of w ≡ FIRST_LAYOUT → AreFirst n
  pub spelled : w ≡ image_in (layout_of w) t n

-- what an image holds, and the layout that its words name: together they have at most one spelling
pub record ImageValue : Type 0 where
  pub layout : ℕ
  pub timetable : TimetableValue
  pub names : NamesValue

-- the words are the image of that timetable and those names, in that layout
abbrev pub Spells : List ℕ → ImageValue → Type 0
Spells w image = IsImage w image.timetable image.names × (layout_of w ≡ image.layout)
