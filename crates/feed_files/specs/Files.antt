-- What is known about a feed's files after a read of one of them.
use Rattle.std.specs.Prelude.{◌≡◌, ℕ, ◌++◌, ◌∷◌, List, [], Result, Ok, Err, Option, None, option_map, Vec}
use Rattle.std.specs.declared.alloc.Global.{Global}
use Rattle.feed_files.specs.declared.disk.NodeState.{NodeState}
use Rattle.feed_files.specs.declared.files.FileFault.{FileFault}
use Rattle.feed_files.specs.declared.files.FileFault.TheVariants as faults
use Rattle.gtfs_rows.specs.declared.id_hash.IdHash.{IdHash}

-- the names of the files whose reads failed, after a read of the file with this name; memory that runs out is no failure
abbrev pub failed_also : {T : Type 0} → List (List ℕ) → List ℕ → Result T FileFault → List (List ℕ)
failed_also before name (Ok file) = before
failed_also before name (Err faults.Failed) = before ++ name ∷ []
failed_also before name (Err faults.OutOfMemory) = before

-- the result of asking for a file: its bytes, or none if there is no such file, or why they can't be read
abbrev pub FileAnswer : Type 0
FileAnswer = Result (Option (Vec ℕ Global)) FileFault

-- what a read gave: the name of the file, and its bytes, or none if there is no such file
abbrev pub FileRead : Type 0
FileRead = List ℕ × Option (List ℕ)

-- the read that gave these bytes
abbrev pub given : List ℕ → Option (Vec ℕ Global) → FileRead
given name file = (name, option_map (λ (bytes : Vec ℕ Global). bytes.items) file)

-- the entry with the path of a folder, which comes before the reads of its files
abbrev pub opened : List ℕ → FileRead
opened folder = (folder, None)

-- the possible results of asking for the file with a name
abbrev pub MayGive : Type 1
MayGive = List ℕ → FileAnswer → Type 0

-- the possible results of asking a disk for a file: the path of the folder, its state, and the name of the file
abbrev pub Gives : Type 0 → Type 1
Gives D = D → List ℕ → Option NodeState → MayGive

-- what the file with a name is known to hold; the inner value is none if there is no such file
abbrev pub Holds : Type 0
Holds = List ℕ → Option (Option (List ℕ))

-- a disk, and how often it was asked for a file
pub record DiskUse (D : Type 0) : Type 0 where
  pub now : D
  pub asks : ℕ

-- what contracts say of a feed's files
pub record FileWords (D : Type 0) : Type 1 where
  -- the reads so far, in order, but for those that ended with a fault; an entry before the first read may say where the files are
  pub reads : D → List FileRead
  pub failed : D → List (List ℕ)  -- the names of the files whose reads failed, in order
  pub holds : D → Holds
  pub may_give : D → MayGive
  pub asks : D → ℕ  -- how often a disk was asked for a file: at most once by each read
  pub hash : D → Option IdHash  -- the hash by which ids in the files are looked up, if that is known

-- the same of files that stand within others
abbrev pub words_within : {D E : Type 0} → (E → D) → FileWords D → FileWords E
words_within inner words = record {
  reads = λ files. words.reads (inner files);
  failed = λ files. words.failed (inner files);
  holds = λ files. words.holds (inner files);
  may_give = λ files. words.may_give (inner files);
  asks = λ files. words.asks (inner files);
  hash = λ files. words.hash (inner files);
}

-- the read is a possible one; a read of the file with this name may fail
abbrev pub MayBeRead : MayGive → FileRead → Type 0
MayBeRead may_give read = (file : Option (Vec ℕ Global)) × may_give read.0 (Ok file) × (read ≡ given read.0 file)

abbrev pub MayFail : MayGive → List ℕ → Type 0
MayFail may_give name = may_give name (Err faults.Failed)

-- the reads after one of the file with a name: one more, or the same if it ended with a fault
abbrev pub read_also : {E : Type 0} → List FileRead → List ℕ → Result (Option (Vec ℕ Global)) E → List FileRead
read_also before name (Ok file) = before ++ given name file ∷ []
read_also before name (Err fault) = before
