-- How the refusal of a feed is printed, and with which status.
use Rattle.std.specs.Prelude.{◌≡◌, ◌⊎◌, ℕ, List, [], ◌++◌}
use Rattle.command_requests.specs.declared.statuses.TheConstants.{INPUT_OUTPUT, REFUSED}
use Rattle.feed_loader.specs.Faults.{fault_name, fault_number}
use Rattle.feed_loader.specs.Refused.{IsWantOfMemory}
use Rattle.feed_loader.specs.declared.fault.LoadFault.{LoadFault}
use Rattle.feed_loader.specs.declared.fault.LoadFault.TheVariants as feeds
use Rattle.gtfs_rows.specs.FaultNumber.{file_name}
use Rattle.command_endings.specs.Ending.{PrintsOnly}
use Rattle.command_endings.specs.Refusing.{place_text, refusal_text, word_text}

-- where a feed is wrong: the file, and for a fault of a table the record
abbrev pub feed_positions : LoadFault → List ℕ
feed_positions (feeds.Table fault) = word_text (file_name fault.file) ++ place_text fault.row
feed_positions (feeds.Day fault) = []
feed_positions (feeds.Range range) = []
feed_positions (feeds.Footpaths fault) = []
feed_positions (feeds.Image fault) = []
feed_positions (feeds.FileFailed table) = word_text (file_name table)

-- the line of a feed that has a fault
abbrev pub feed_line : LoadFault → List ℕ
feed_line fault = refusal_text (fault_number fault, fault_name fault) (feed_positions fault)

-- the status of a feed that is refused, or of which a file can't be read
abbrev pub refusal_status : LoadFault → ℕ
refusal_status (feeds.Table fault) = REFUSED
refusal_status (feeds.Day fault) = REFUSED
refusal_status (feeds.Range range) = REFUSED
refusal_status (feeds.Footpaths fault) = REFUSED
refusal_status (feeds.Image fault) = REFUSED
refusal_status (feeds.FileFailed table) = INPUT_OUTPUT

-- the line of a feed that has such a fault, other than want of memory, with the status that goes with the fault
abbrev pub IsFeedRefusal : (LoadFault → Type 0) → ℕ → List ℕ → Type 0
IsFeedRefusal IsFault status line =
    (fault : LoadFault) × (¬ (IsWantOfMemory fault)) × (status ≡ refusal_status fault) × IsFault fault × (line ≡ feed_line fault)

-- it prints such a text if what was asked for is done, and otherwise the line of a feed that has such a fault
abbrev pub PrintsOfFeed : (List ℕ → Type 0) → (LoadFault → Type 0) → ℕ → List ℕ → Type 0
PrintsOfFeed IsText IsFault status text = PrintsOnly IsText status text ⊎ IsFeedRefusal IsFault status text

-- a feed is refused for this fault: it is neither want of memory nor a file that can't be read
abbrev pub RefusesFeed : LoadFault → Type 0
RefusesFeed fault = (¬ (IsWantOfMemory fault)) × (refusal_status fault ≡ REFUSED)
