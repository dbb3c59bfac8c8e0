-- Where the sections of an image begin.
use Rattle.std.specs.Prelude.{◌≡◌, ℕ, ◌+◌, ◌*◌, ◌/◌, ◌≤◌, ◌==◌, ◌||◌, Bool, List, length, slice_index, if◌then◌else◌}
use Rattle.image_layout.specs.declared.header.Header.{Header}
use Rattle.image_layout.specs.declared.layout.TheConstants.{FIRST_LAYOUT, LAYOUT}

-- the layouts that are read
abbrev pub is_layout : ℕ → Bool
is_layout number = (number == FIRST_LAYOUT) || (number == LAYOUT)

-- the layout and the counts, words 1 to 6. The base follows, in words 7 and 8
abbrev pub header_of : List ℕ → Header
header_of w = record {
  layout = slice_index w 1;
  stops = slice_index w 2;
  trips = slice_index w 3;
  connections = slice_index w 4;
  footpaths = slice_index w 5;
  name_bytes = slice_index w 6;
}

-- where the foot index begins: after the nine words of the header, and six for each connection
abbrev pub foot_index_offset : Header → ℕ
foot_index_offset h = 9 + 6 * h.connections

-- where the footpaths begin: after a word for each stop, and one more
abbrev pub footpath_offset : Header → ℕ
footpath_offset h = foot_index_offset h + h.stops + 1

-- where the name index begins: after two words for each footpath
abbrev pub name_index_offset : Header → ℕ
name_index_offset h = footpath_offset h + 2 * h.footpaths

-- where the service days begin: after a word for each stop and each trip, and one more
abbrev pub day_offset : Header → ℕ
day_offset h = name_index_offset h + h.stops + h.trips + 1

-- where the repeats begin: after a word for each trip
abbrev pub repeat_offset : Header → ℕ
repeat_offset h = day_offset h + h.trips

-- the number of words of repeats: one for each trip, but none in the first layout
abbrev pub repeat_words : Header → ℕ
repeat_words h = if h.layout == LAYOUT then h.trips else 0

-- where the text begins: after the repeats
abbrev pub text_offset : Header → ℕ
text_offset h = repeat_offset h + repeat_words h

-- how many words an image with this header has: the text has four bytes to a word, perhaps fewer in the last
abbrev pub word_count : Header → ℕ
word_count h = text_offset h + (h.name_bytes + 3) / 4

-- words that begin with a header, and are as many as its counts say
pub record IsWhole (w : List ℕ) : Type 0 where
  pub has_header : 9 ≤ length w
  pub all_there : length w ≡ word_count (header_of w)
