-- Two small timetables with their names, and the words of the second in each layout.
use Rattle.std.specs.Prelude.{◌≡◌, ℕ, List, [], ◌∷◌, ◌++◌, true, false, pos, negsuc, codes}
use Rattle.timetable.specs.TimetableValue.{TimetableValue}
use Rattle.timetable.specs.declared.network.Connection.{Connection}
use Rattle.timetable.specs.declared.network.Footpath.{Footpath}
use Rattle.timetable.specs.NamesValue.{NamesValue}
use Rattle.image_layout.specs.Fields.{layout_of}
use Rattle.image_layout.specs.Image.{IsImage}
use Rattle.image_layout.specs.Shown.{names_of, timetable_of}

-- a connection where all may board and alight
abbrev open_connection : ℕ → ℕ → ℕ → ℕ → ℕ → Connection
open_connection from to dep arr trip = record { from = from; to = to; dep = dep; arr = arr; trip = trip; board = true; alight = true }

-- a change that takes no time
abbrev free_change : ℕ → Footpath
free_change stop = record { from = stop; to = stop; secs = 0 }

-- three stops, a trip of two connections and a trip of one, and the loops
abbrev pub sample_timetable : TimetableValue
sample_timetable = record {
  stops = 3;
  trips = 2;
  connections = open_connection 0 1 28800 29400 0 ∷ open_connection 1 2 29400 30600 0 ∷ open_connection 1 2 29520 30000 1 ∷ [];
  footpaths = free_change 0 ∷ free_change 1 ∷ free_change 2 ∷ [];
}

-- its names; times count from 2024-01-15T00:00:00Z
abbrev pub sample_names : NamesValue
sample_names = record {
  base = pos 1705276800;
  stops = codes "A" ∷ codes "B" ∷ codes "C" ∷ [];
  trips = record { name = codes "T1"; day = 20240115; repeat = 0 } ∷ record { name = codes "T2"; day = 20240115; repeat = 0 } ∷ [];
}

-- the words are the image of the sample and its names in this layout, and show them
pub record IsSampleIn (number : ℕ) (words : List ℕ) : Type 0 where
  pub image : IsImage words sample_timetable sample_names
  pub layout : layout_of words ≡ number
  pub timetable : timetable_of words ≡ sample_timetable
  pub names : names_of words ≡ sample_names

-- a connection for boarding only, one for alighting only and one for both, and footpaths between the two stops
abbrev pub early_timetable : TimetableValue
early_timetable = record {
  stops = 2;
  trips = 2;
  connections =
      record { from = 0; to = 1; dep = 10; arr = 20; trip = 1; board = true; alight = false }
      ∷ record { from = 1; to = 0; dep = 30; arr = 50; trip = 1; board = false; alight = true }
      ∷ record { from = 1; to = 0; dep = 40; arr = 60; trip = 0; board = true; alight = true } ∷ [];
  footpaths =
      record { from = 0; to = 0; secs = 120 }
      ∷ record { from = 1; to = 0; secs = 300 }
      ∷ record { from = 0; to = 1; secs = 240 }
      ∷ record { from = 1; to = 1; secs = 90 } ∷ [];
}

-- its names; times count from 1969-12-31T00:00:00Z, a stop has an empty name, and the first trip has this repeat
abbrev names_with : ℕ → NamesValue
names_with repeat = record {
  base = negsuc 86399;
  stops = [] ∷ codes "Port" ∷ [];
  trips = record { name = codes "12"; day = 19691231; repeat = repeat } ∷ record { name = codes "ABC"; day = 19700101; repeat = 0 } ∷ [];
}

abbrev pub early_names : NamesValue
early_names = names_with 0

-- the same names, but the first trip is repeat 5 of its day
abbrev pub repeated_names : NamesValue
repeated_names = names_with 5

-- the words of its image in a layout, worked out by hand, a line for each section; the repeats, if any, come before the text
abbrev words_with : ℕ → List ℕ → List ℕ
words_with layout repeats =
    1346458435 ∷ layout ∷ 2 ∷ 2 ∷ 3 ∷ 4 ∷ 9 ∷ 4294880896 ∷ 4294967295
    ∷ 0 ∷ 1 ∷ 10 ∷ 20 ∷ 1 ∷ 1 ∷ 1 ∷ 0 ∷ 30 ∷ 50 ∷ 1 ∷ 2 ∷ 1 ∷ 0 ∷ 40 ∷ 60 ∷ 0 ∷ 3
    ∷ 0 ∷ 2 ∷ 4
    ∷ 0 ∷ 120 ∷ 1 ∷ 300 ∷ 0 ∷ 240 ∷ 1 ∷ 90
    ∷ 0 ∷ 0 ∷ 4 ∷ 6 ∷ 9
    ∷ 19691231 ∷ 19700101
    ∷ (repeats ++ 0x7472_6f50 ∷ 0x4241_3231 ∷ 0x43 ∷ [])

-- in the first layout
abbrev pub early_words : List ℕ
early_words = words_with 1 []

-- in the layout that is written
abbrev pub repeated_words : List ℕ
repeated_words = words_with 2 (5 ∷ 0 ∷ [])
