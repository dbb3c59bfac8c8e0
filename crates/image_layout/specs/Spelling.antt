-- The words of a timetable and its names: the sections, spelled and set end to end.
use Rattle.std.specs.Prelude.{ℕ, ◌+◌, ◌/◌, ◌%◌, ◌==◌, nat_lt, List, [], ◌∷◌, ◌++◌, length, take, map, count_by, if◌then◌else◌}
use Rattle.std.specs.List.{flat_map, concat, range_with_len}
use Rattle.std.specs.Int.{w32, w64, from_le_bytes, cast_unsigned}
use Rattle.timetable.specs.declared.network.Connection.{Connection}
use Rattle.timetable.specs.declared.network.Footpath.{Footpath}
use Rattle.timetable.specs.TimetableValue.{TimetableValue}
use Rattle.image_layout.specs.declared.layout.TheConstants.{MAGIC, LAYOUT}
use Rattle.timetable.specs.NamesValue.{NamesValue, TripNameValue}

-- the flags of a connection: 1 for boarding and 2 for alighting
abbrev pub flags : Connection → ℕ
flags c = (if c.board then 1 else 0) + (if c.alight then 2 else 0)

-- the six words of a connection
abbrev pub connection_words : Connection → List ℕ
connection_words c = c.from ∷ c.to ∷ c.dep ∷ c.arr ∷ c.trip ∷ flags c ∷ []

-- how many footpaths lead into stops below s
abbrev pub footpath_count_below : List Footpath → ℕ → ℕ
footpath_count_below paths s = count_by (λ f. nat_lt f.to s) paths

-- the foot index: for each stop how many footpaths lead into the stops before it, and then how many lead into all stops
abbrev pub foot_index : TimetableValue → List ℕ
foot_index p = map (footpath_count_below p.footpaths) (range_with_len 0 (p.stops + 1))

-- the two words of a footpath; the foot index says which stop it leads into
abbrev pub footpath_words : Footpath → List ℕ
footpath_words f = f.from ∷ f.secs ∷ []

-- the stops' names, and then the trips'
abbrev pub name_list : NamesValue → List (List ℕ)
name_list n = n.stops ++ map (λ (t : TripNameValue). t.name) n.trips

-- how many bytes come before name i
abbrev pub byte_count_before : List (List ℕ) → ℕ → ℕ
byte_count_before ns i = length (concat (take i ns))

-- the name index: for each name how many bytes come before it, and then how many bytes there are
abbrev pub name_index : NamesValue → List ℕ
name_index n = map (byte_count_before (name_list n)) (range_with_len 0 (length (name_list n) + 1))

-- the bytes of all names, one after the other
abbrev pub text : NamesValue → List ℕ
text n = concat (name_list n)

-- bytes as words, four to a word, the least significant first; the spare bytes of the last word are 0
unfoldable pub text_words : List ℕ → List ℕ
text_words [] = []
text_words (a ∷ []) = from_le_bytes w32 (a ∷ 0 ∷ 0 ∷ 0 ∷ []) ∷ []
text_words (a ∷ b ∷ []) = from_le_bytes w32 (a ∷ b ∷ 0 ∷ 0 ∷ []) ∷ []
text_words (a ∷ b ∷ c ∷ []) = from_le_bytes w32 (a ∷ b ∷ c ∷ 0 ∷ []) ∷ []
text_words (a ∷ b ∷ c ∷ d ∷ rest) = from_le_bytes w32 (a ∷ b ∷ c ∷ d ∷ []) ∷ text_words rest

-- the nine words of the header: magic, layout, five counts, and the base in two words, the low one first
abbrev pub header : ℕ → TimetableValue → NamesValue → List ℕ
header layout p n =
    MAGIC ∷ layout ∷ p.stops ∷ p.trips ∷ length p.connections ∷ length p.footpaths ∷ length (text n)
    ∷ cast_unsigned w64 n.base % 4294967296 ∷ cast_unsigned w64 n.base / 4294967296 ∷ []

-- the repeats of the trips, which the first layout leaves out
abbrev pub repeats_in : ℕ → NamesValue → List ℕ
repeats_in layout n = if layout == LAYOUT then map (λ (t : TripNameValue). t.repeat) n.trips else []

-- the image in a layout
unfoldable pub image_in : ℕ → TimetableValue → NamesValue → List ℕ
image_in layout p n =
    header layout p n
    ++ (flat_map connection_words p.connections
    ++ (foot_index p
    ++ (flat_map footpath_words p.footpaths
    ++ (name_index n
    ++ (map (λ (t : TripNameValue). t.day) n.trips
    ++ (repeats_in layout n
    ++ text_words (text n)))))))

-- the image as it is written: in layout 2
abbrev pub image : TimetableValue → NamesValue → List ℕ
image p n = image_in LAYOUT p n
