-- The timetable and the names that words show.
use Rattle.std.specs.Prelude.{ℤ, ℕ, ◌+◌, ◌-◌, ◌*◌, ◌/◌, ◌%◌, ◌==◌, List, map, slice_index, slice_range}
use Rattle.std.specs.List.{flat_map, range_with_len}
use Rattle.std.specs.Int.{w64, cast_signed}
use Rattle.timetable.specs.declared.network.Connection.{Connection}
use Rattle.timetable.specs.declared.network.Footpath.{Footpath}
use Rattle.timetable.specs.TimetableValue.{TimetableValue}
use Rattle.timetable.specs.NamesValue.{NamesValue, TripNameValue}
use Rattle.image_layout.specs.Offsets.{header_of}
use Rattle.image_layout.specs.Fields.{from_of, to_of, dep_of, arr_of, trip_of, flags_of, foot_index_of, foot_from_of}
use Rattle.image_layout.specs.Fields.{foot_secs_of, name_index_of, day_of, repeat_of}
use Rattle.image_layout.specs.Text.{padded_text_of}

-- connection i: flag 1 lets passengers board, and flag 2 lets them alight
abbrev pub connection_of : List ℕ → ℕ → Connection
connection_of w i = record {
  from = from_of w i;
  to = to_of w i;
  dep = dep_of w i;
  arr = arr_of w i;
  trip = trip_of w i;
  board = (flags_of w i % 2 == 1);
  alight = (flags_of w i / 2 == 1);
}

unfoldable pub connections_of : List ℕ → List Connection
connections_of w = map (connection_of w) (range_with_len 0 (header_of w).connections)

-- the footpath at index k, which leads into stop s
abbrev pub footpath_of : List ℕ → ℕ → ℕ → Footpath
footpath_of w s k = record { from = foot_from_of w k; to = s; secs = foot_secs_of w k }

-- the footpaths into stop s, in their order
abbrev pub footpaths_into : List ℕ → ℕ → List Footpath
footpaths_into w s = map (footpath_of w s) (range_with_len (foot_index_of w s) (foot_index_of w (s + 1) - foot_index_of w s))

unfoldable pub footpaths_of : List ℕ → List Footpath
footpaths_of w = flat_map (footpaths_into w) (range_with_len 0 (header_of w).stops)

-- the timetable that the words hold
abbrev pub timetable_of : List ℕ → TimetableValue
timetable_of w = record { stops = (header_of w).stops; trips = (header_of w).trips; connections = connections_of w; footpaths = footpaths_of w }

-- how many names there are, of stops and of trips
abbrev pub name_count : List ℕ → ℕ
name_count w = (header_of w).stops + (header_of w).trips

-- the bytes of name i
abbrev pub name_of : List ℕ → ℕ → List ℕ
name_of w i = slice_range (padded_text_of w) (name_index_of w i) (name_index_of w (i + 1))

-- the name of trip t; the names of trips come after those of the stops
abbrev pub trip_name_of : List ℕ → ℕ → TripNameValue
trip_name_of w t = record { name = name_of w ((header_of w).stops + t); day = day_of w t; repeat = repeat_of w t }

-- the base, in words 7 and 8, the low one first, in two's complement
abbrev pub base_of : List ℕ → ℤ
base_of w = cast_signed w64 (slice_index w 7 + 4294967296 * slice_index w 8)

-- the base and the names that the words hold
abbrev pub names_of : List ℕ → NamesValue
names_of w = record {
  base = base_of w;
  stops = map (name_of w) (range_with_len 0 (header_of w).stops);
  trips = map (trip_name_of w) (range_with_len 0 (header_of w).trips);
}
