-- What can be written as an image.
use Rattle.std.specs.Prelude.{◌≡◌, ◌≤◌, length}
use Rattle.timetable.specs.declared.limits.TheConstants.{MAX_NAME_BYTES}
use Rattle.timetable.specs.TimetableValue.{TimetableValue}
use Rattle.timetable.specs.NamesValue.{NamesValue}
use Rattle.timetable.specs.Legal.{IsLegal}
use Rattle.timetable.specs.Limits.{IsWithinLimits}
use Rattle.image_layout.specs.Spelling.{text}

-- a legal timetable within the limits, and a name for each stop and each trip, together no longer than the limit;
-- their types ensure that names are UTF-8, that each day and each repeat fits a word, and the base two words
pub record IsWritable (t : TimetableValue) (n : NamesValue) : Type 0 where
  pub legal : IsLegal t
  pub limits : IsWithinLimits t
  pub stop_names : length n.stops ≡ t.stops
  pub trip_names : length n.trips ≡ t.trips
  pub bytes : length (text n) ≤ MAX_NAME_BYTES
