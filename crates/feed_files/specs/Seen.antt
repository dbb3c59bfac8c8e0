-- What is seen of the files of a folder on a disk.
use Rattle.std.specs.Prelude.{◌≡◌, ◌≢◌, ◌<◌, ◌≤◌, ◌⊎◌, ◌↔◌, ℕ, List, length, Option, Some, None, Ok, Err, IfSome, Bool, true, false, Vec, option_map}
use Rattle.std.specs.declared.alloc.Global.{Global}
use Rattle.std.specs.Path.{path_join}
use Rattle.std_io.specs.declared.io.kind.ErrorKind.{ErrorKind}
use Rattle.std_io.specs.declared.io.kind.ErrorKind.TheVariants.{NotADirectory, NotFound, OutOfMemory}
use Rattle.feed_files.specs.Files.{FileAnswer}
use Rattle.feed_files.specs.declared.disk.NodeState.{NodeState}
use Rattle.feed_files.specs.declared.files.FileFault.{FileFault}
use Rattle.feed_files.specs.declared.files.FileFault.TheVariants as faults

pub data DiskEvent : Type 0 where
  -- something was found in this state, or the search ended with an error of this kind
  found : NodeState → DiskEvent
  unfound : ErrorKind → DiskEvent
  -- whether there was a link
  linked : Bool → DiskEvent
  -- the file that was found in this state was opened, and holds these bytes, if they are known
  opened : NodeState → Option (List ℕ) → DiskEvent
  -- opening or reading it ended with an error of this kind
  unread : NodeState → ErrorKind → DiskEvent
  -- once these bytes had been read at a path, or the search had ended there without a file, something was found in this state, or nothing was
  found_after : List ℕ → Option (List ℕ) → Option NodeState → DiskEvent

-- what was seen of the file or the folder at a path
abbrev pub Seen : Type 1
Seen = List ℕ → DiskEvent → Type 0

-- what is at the path was in this state, or nothing was found there
abbrev pub IsInState : Seen → List ℕ → Option NodeState → Type 0
IsInState seen path (Some state) = seen path (found state)
IsInState seen path None = (kind : ErrorKind) × seen path (unfound kind)

-- an error of this kind means that there is no such file
abbrev pub MeansNone : ErrorKind → Type 0
MeansNone kind = (kind ≡ NotFound) ⊎ (kind ≡ NotADirectory)

-- an error of this kind is reported as this fault
abbrev pub IsFaultOfKind : ErrorKind → FileFault → Type 0
IsFaultOfKind kind fault = fault ≡ faults.OutOfMemory ↔ (kind ≡ OutOfMemory)

-- the file that was found in this state was opened, and these are all of its bytes, if they are known
abbrev pub AreBytesAt : Seen → List ℕ → NodeState → List ℕ → Type 0
AreBytesAt seen path state bytes = (held : Option (List ℕ)) × (seen path (opened state held) × IfSome held (λ whole. bytes ≡ whole))

-- a plain file was found at the path, these are all of its bytes, if they are known, and it was still as it was found
-- once they had been read
abbrev pub IsHeldAt : Seen → List ℕ → List ℕ → Type 0
IsHeldAt seen path bytes = (state : NodeState) × (AreBytesAt seen path state bytes × seen path (found_after path (Some bytes) (Some state)))

-- the search for a file at the path ended as it does where there is none, and there was no link
abbrev pub IsMissingAt : Seen → List ℕ → Type 0
IsMissingAt seen path = (kind : ErrorKind) × (seen path (unfound kind) × MeansNone kind × seen path (linked false))

-- the bytes at the path have been read, or the search has ended there without a file
abbrev pub WasRead : Seen → List ℕ → Option (Vec ℕ Global) → Type 0
WasRead seen path None = IsMissingAt seen path
WasRead seen path (Some bytes) = (state : NodeState) × AreBytesAt seen path state bytes.items

-- the bytes of the file at a path, or none if there is no such file
abbrev pub IsFileAt : Seen → List ℕ → Option (Vec ℕ Global) → Type 0
IsFileAt seen path None = IsMissingAt seen path
IsFileAt seen path (Some bytes) = IsHeldAt seen path bytes.items

-- the file at a path wasn't found: the search failed, or a link leads nowhere
abbrev pub IsSearchFault : Seen → List ℕ → FileFault → Type 0
IsSearchFault seen path fault = (kind : ErrorKind) × (seen path (unfound kind)
    × (((¬ (MeansNone kind)) × IsFaultOfKind kind fault) ⊎ (MeansNone kind × seen path (linked true) × (fault ≡ faults.Failed))))

-- the file reports more bytes than the limit, or holds more
abbrev pub IsTooLong : Seen → ℕ → List ℕ → NodeState → Type 0
IsTooLong seen limit path state =
    (limit < state.length) ⊎ ((held : Option (List ℕ)) × (seen path (opened state held) × IfSome held (λ whole. limit < length whole)))

-- the file that was found couldn't be opened or read
abbrev pub IsReadFault : Seen → List ℕ → NodeState → FileFault → Type 0
IsReadFault seen path state fault = (kind : ErrorKind) × (seen path (unread state kind) × IsFaultOfKind kind fault)

-- what is at the path no longer was in this state
abbrev pub HasChanged : Seen → List ℕ → Option NodeState → Type 0
HasChanged seen path state =
    (read : List ℕ) × (file : Option (List ℕ)) × (other : Option NodeState) × (seen path (found_after read file other) × (other ≢ state))

-- why what was found isn't read: it is no plain file, it can't be opened or read, it is too long, or it changed
abbrev pub IsFaultOfFound : Seen → ℕ → List ℕ → NodeState → FileFault → Type 0
IsFaultOfFound seen limit path state fault =
    IsReadFault seen path state fault
    ⊎ ((fault ≡ faults.Failed) × ((state.is_file ≡ false) ⊎ (IsTooLong seen limit path state ⊎ HasChanged seen path (Some state))))

-- why the file at a path can't be read
abbrev pub IsFaultAt : Seen → ℕ → List ℕ → FileFault → Type 0
IsFaultAt seen limit path fault =
    IsSearchFault seen path fault ⊎ ((state : NodeState) × (seen path (found state) × IsFaultOfFound seen limit path state fault))

-- the answer to asking for a file in a folder that is in a state: its bytes, or none if there is no such file, while the folder stayed in that
-- state; or why it can't be read
abbrev pub IsAnswerIn : Seen → ℕ → List ℕ → Option NodeState → List ℕ → FileAnswer → Type 0
IsAnswerIn seen limit folder state name (Ok file) =
    IsFileAt seen (path_join folder name) file × IfSome file (λ bytes. length bytes.items ≤ limit)
    × seen folder (found_after (path_join folder name) (option_map (λ bytes. bytes.items) file) state)
IsAnswerIn seen limit folder state name (Err fault) =
    IsFaultAt seen limit (path_join folder name) fault ⊎ ((fault ≡ faults.Failed) × HasChanged seen folder state)
