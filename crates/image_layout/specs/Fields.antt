-- The word of each field. w is the list of an image's words; i, s and k are numbers from 0 on.
use Rattle.std.specs.Prelude.{ℕ, ◌+◌, ◌*◌, ◌==◌, List, slice_index, if◌then◌else◌}
use Rattle.image_layout.specs.declared.layout.TheConstants.{LAYOUT}
use Rattle.image_layout.specs.Offsets.{header_of, foot_index_offset, footpath_offset, name_index_offset, day_offset, repeat_offset}

-- the word that all images begin with
abbrev pub magic_of : List ℕ → ℕ
magic_of w = slice_index w 0

-- the number of the layout
abbrev pub layout_of : List ℕ → ℕ
layout_of w = slice_index w 1

-- the offset of the first of the six words of connection i
abbrev pub connection_offset : ℕ → ℕ
connection_offset i = 9 + 6 * i

-- the stop that connection i leaves
abbrev pub from_of : List ℕ → ℕ → ℕ
from_of w i = slice_index w (connection_offset i)

-- the stop that it reaches
abbrev pub to_of : List ℕ → ℕ → ℕ
to_of w i = slice_index w (connection_offset i + 1)

-- its departure, in seconds after the base
abbrev pub dep_of : List ℕ → ℕ → ℕ
dep_of w i = slice_index w (connection_offset i + 2)

-- its arrival, in seconds after the base
abbrev pub arr_of : List ℕ → ℕ → ℕ
arr_of w i = slice_index w (connection_offset i + 3)

-- its trip
abbrev pub trip_of : List ℕ → ℕ → ℕ
trip_of w i = slice_index w (connection_offset i + 4)

-- its flags: bit 0 if passengers may board, bit 1 if they may alight
abbrev pub flags_of : List ℕ → ℕ → ℕ
flags_of w i = slice_index w (connection_offset i + 5)

-- word s of the foot index: the index of the first footpath into stop s, which follows the last one into the stops before
abbrev pub foot_index_of : List ℕ → ℕ → ℕ
foot_index_of w s = slice_index w (foot_index_offset (header_of w) + s)

-- the stop that the footpath at index k leaves
abbrev pub foot_from_of : List ℕ → ℕ → ℕ
foot_from_of w k = slice_index w (footpath_offset (header_of w) + 2 * k)

-- the seconds that it takes
abbrev pub foot_secs_of : List ℕ → ℕ → ℕ
foot_secs_of w k = slice_index w (footpath_offset (header_of w) + 2 * k + 1)

-- word i of the name index: where name i begins in the text; the stops' names come first, then the trips'
abbrev pub name_index_of : List ℕ → ℕ → ℕ
name_index_of w i = slice_index w (name_index_offset (header_of w) + i)

-- the service day of trip i, as a number YYYYMMDD
abbrev pub day_of : List ℕ → ℕ → ℕ
day_of w i = slice_index w (day_offset (header_of w) + i)

-- which of its day's repeats trip i is: 0 in the first layout, which has no repeats
abbrev pub repeat_of : List ℕ → ℕ → ℕ
repeat_of w i = if layout_of w == LAYOUT then slice_index w (repeat_offset (header_of w) + i) else 0
