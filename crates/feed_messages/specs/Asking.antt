-- The reads of a feed's files while all their faults are looked for.
use Rattle.std.specs.Prelude.{◌≡◌, ◌⊎◌, List, [], ◌∷◌}
use Rattle.gtfs_rows.specs.FaultNumber.{file_name}
use Rattle.gtfs_rows.specs.declared.fault.Table.{Table}
use Rattle.feed_files.specs.Files.{FileAnswer, FileWords, failed_also, read_also}

module _ {D : Type 0} (words : FileWords D) where
  -- the file of the table was asked for, once
  abbrev pub IsAskedFor : Table → D → D → Type 0
  IsAskedFor table old new =
      (answer : FileAnswer) × (words.reads new ≡ read_also (words.reads old) (file_name table) answer)
      × (words.failed new ≡ failed_also (words.failed old) (file_name table) answer)

  -- the files of the first few of these tables, or of all, were asked for, each once, in this order, and no others
  abbrev pub AreAskedFor : List Table → D → D → Type 0
  AreAskedFor [] old new = new ≡ old
  AreAskedFor (table ∷ rest) old new = (new ≡ old) ⊎ ((middle : D) × IsAskedFor table old middle × AreAskedFor rest middle new)
