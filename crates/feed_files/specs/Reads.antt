-- The reads of a feed's files between two moments.
use Rattle.std.specs.Prelude.{◌≡◌, ◌⊎◌, ◌++◌, ◌∷◌, ◌+◌, ◌≤◌, ℕ, List, [], Result, Ok, Err, All, IfSome, length, map, take}
use Rattle.gtfs_rows.specs.FaultNumber.{file_name}
use Rattle.gtfs_rows.specs.declared.fault.Table.{Table}
use Rattle.gtfs_rows.specs.declared.fault.Table.TheVariants as tables
use Rattle.feed_files.specs.Files.{FileRead, FileWords, Holds, MayBeRead, MayGive}
use Rattle.feed_files.specs.Outcome.{failed_by}
use Rattle.feed_files.specs.Reading.{Content, Tells}
use Rattle.feed_files.specs.declared.reading.ReadFault.{ReadFault}

-- the tables in the order in which their files are read
abbrev pub all_tables : List Table
all_tables =
    tables.Agency ∷ tables.Stops ∷ tables.Trips ∷ tables.StopTimes
    ∷ tables.Calendar ∷ tables.CalendarDates ∷ tables.Transfers ∷ tables.Frequencies ∷ []

-- the read of a table's file, if the files hold this
abbrev pub read_of : Content → Table → FileRead
read_of content table = (file_name table, content table)

-- the files of these tables were read, each once, in this order, and no others; they held this
abbrev pub AreRead : Content → List Table → List FileRead → List FileRead → Type 0
AreRead content ts old new = new ≡ old ++ map (read_of content) ts

-- the files of these tables may hold this: it is what reads of them may give
abbrev pub MayHold : MayGive → Content → List Table → Type 0
MayHold may_give content ts = ∥ All (MayBeRead may_give) (map (read_of content) ts) ∥₁

-- the files of all tables were read in this way
abbrev pub AllWereRead : List FileRead → List FileRead → Type 0
AllWereRead old new = (content : Content) × AreRead content all_tables old new

-- the first few of them were read in this way, and no others
abbrev pub SomeWereRead : List FileRead → List FileRead → Type 0
SomeWereRead old new = (count : ℕ) × (content : Content) × AreRead content (take count all_tables) old new

-- the files show this content: they are known to hold it, or the reads between two moments gave it
abbrev pub Shows : {D : Type 0} → FileWords D → D → D → Content → Type 0
Shows words old new content = Tells (words.holds old) content ⊎ ((ts : List Table) × AreRead content ts (words.reads old) (words.reads new))

-- if the read is of a table's file, it gave what the content has for it
abbrev pub Gave : Content → FileRead → Type 0
Gave content read = (table : Table) → read.0 ≡ file_name table → read.1 ≡ content table

-- this holds for each read between two moments
abbrev pub AllGave : {D : Type 0} → FileWords D → D → D → Content → Type 0
AllGave words old new content = (made : List FileRead) → words.reads new ≡ words.reads old ++ made → All (Gave content) made

-- the read gave what the files hold, if that is known
abbrev pub IsOfHeld : Holds → FileRead → Type 0
IsOfHeld holds read = IfSome (holds read.0) (λ bytes. read.1 ≡ bytes)

-- the files of these tables were read, each once, in this order, and no others
pub record AreAsked (holds : Holds) (ts : List Table) (old new : List FileRead) : Type 0 where
  pub made : List FileRead
  pub grown : new ≡ old ++ made
  pub names : map (λ (read : FileRead). read.0) made ≡ map file_name ts
  pub held : All (IsOfHeld holds) made

-- the first few of these files were read
abbrev pub AreSomeAsked : Holds → List Table → List FileRead → List FileRead → Type 0
AreSomeAsked holds ts old new = (count : ℕ) × AreAsked holds (take count ts) old new

-- all of these files were read, or only the first few if there was a fault
abbrev pub AskedFor : {T : Type 0} → Holds → List Table → List FileRead → List FileRead → Result T ReadFault → Type 0
AskedFor holds ts old new (Ok t) = AreAsked holds ts old new
AskedFor holds ts old new (Err fault) = AreSomeAsked holds ts old new

-- these files were asked for, each at most once. Nothing else is known of the files than before, but that the read of the file that the result names failed
pub record AreReadBy {D T : Type 0} (words : FileWords D) (ts : List Table) (old : D) (result : Result T ReadFault) (new : D) : Type 0 where
  pub asked : AskedFor (words.holds old) ts (words.reads old) (words.reads new) result
  pub failed : words.failed new ≡ failed_by (words.failed old) result
  pub once : words.asks new ≤ words.asks old + length ts
  pub holds : words.holds new ≡ words.holds old
  pub hash : words.hash new ≡ words.hash old
