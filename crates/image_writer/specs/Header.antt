-- The layout and the counts of the image of a timetable and its names.
use Rattle.std.specs.Prelude.{length}
use Rattle.timetable.specs.TimetableValue.{TimetableValue}
use Rattle.timetable.specs.NamesValue.{NamesValue}
use Rattle.image_layout.specs.declared.header.Header.{Header}
use Rattle.image_layout.specs.declared.layout.TheConstants.{LAYOUT}
use Rattle.image_layout.specs.Spelling.{text}

abbrev pub counts_of : TimetableValue → NamesValue → Header
counts_of t n = record {
  layout = LAYOUT;
  stops = t.stops;
  trips = t.trips;
  connections =
      length t.connections;
  footpaths = length t.footpaths;
  name_bytes = length (text n);
}
