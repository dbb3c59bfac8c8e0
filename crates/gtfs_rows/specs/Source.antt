-- The records of a file's bytes, and those that are still to be read.
use Rattle.std.specs.Prelude.{◌≡◌, ◌+◌, ◌<◌, ℕ, List, [], ◌∷◌, length, slice_index_or, Option, Some, None, IsSome, ⊤}
use Rattle.std.specs.Borrow.{Bor}
use Rattle.csv.specs.Reading.{Ready, default_config, reader_config, reader_state, reader_trim, records, records_from, source_of, strip_bom}
use Rattle.csv.specs.Records.{AllText, fields_of}
use Rattle.csv.specs.declared.parser.State.{State}
use Rattle.csv.specs.declared.reader.Trim.TheVariants as trim
use Rattle.gtfs_rows.specs.Positions.{line_at}
use Rattle.gtfs_rows.specs.declared.records.FoundRecord.{FoundRecord}
use Rattle.gtfs_rows.specs.declared.records.Records.{Records}

-- a record is its fields, each a list of bytes
abbrev pub Record : Type 0
Record = List (List ℕ)

-- the records of a file's bytes, the header first: fields between commas, in double quotes or not, and a record on each
-- line that isn't empty
abbrev pub table_records : List ℕ → List Record
table_records bytes = records default_config (strip_bom bytes)

-- the records of a text that is read from this state on
abbrev pub records_at : State → List ℕ → List Record
records_at s text = records_from default_config (length text + 1) s text

-- the same if the text is known
abbrev pub records_of : State → Option (List ℕ) → List Record
records_of s None = []
records_of s (Some text) = records_at s text

-- the bytes of a slice that a reader has not been given yet are known
abbrev pub known : Bor (List ℕ) → Option (List ℕ)
known slice = Some slice.now

-- the records that are still to be read
abbrev pub left_of : Records → List Record
left_of r = records_of (reader_state r.reader) (source_of known r.reader)

-- the record that was read last
abbrev pub last_of : Records → Record
last_of r = fields_of r.record

-- the records are read as a table's are: by commas and double quotes, nothing is trimmed, and the first isn't left out
pub record IsReading (r : Records) : Type 0 where
  pub config : reader_config r.reader ≡ default_config
  pub trim : reader_trim r.reader ≡ trim.None
  pub ready : Ready r.reader
  pub source : IsSome (source_of known r.reader)

-- the columns that were looked for, the header's width and the file's bytes stay as they are
pub record IsSame (old new : Records) : Type 0 where
  pub indices : new.indices.items ≡ old.indices.items
  pub width : new.width ≡ old.width
  pub lines : new.lines ≡ old.lines

-- each field of each record is UTF-8
abbrev pub AllRecordsText : List Record → Type 0
AllRecordsText [] = ⊤
AllRecordsText (r ∷ rest) = AllText r × AllRecordsText rest

-- the file has a record of this number, and it was found with the header and the line in which it begins
pub record IsFound (bytes : List ℕ) (number : ℕ) (found : FoundRecord) : Type 0 where
  pub within : number < length (table_records bytes)
  pub header : fields_of found.header ≡ slice_index_or (table_records bytes) 0 []
  pub fields : fields_of found.«record» ≡ slice_index_or (table_records bytes) number []
  pub number_is : found.position.«record» ≡ number
  pub line : found.position.line ≡ line_at bytes found.position.byte
