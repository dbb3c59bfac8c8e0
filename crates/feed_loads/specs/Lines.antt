-- The loader's lines: what came of an order.
use Rattle.std.specs.Prelude.{ℕ, ◌++◌, List, Result, Ok, Err, codes, decimal, flat_map}
use Rattle.shelves.specs.FaultNumber.{publish_fault_name, publish_fault_number}
use Rattle.shelves.specs.declared.faults.PublishFault.{PublishFault}
use Rattle.feed_loader.specs.Faults.{fault_name, fault_number}
use Rattle.feed_loader.specs.declared.fault.LoadFault.{LoadFault}
use Rattle.gtfs_rows.specs.FaultNumber.{file_name}
use Rattle.feed_loads.specs.declared.loading.LoadedVersion.{LoadedVersion}
use Rattle.feed_loads.specs.declared.refusal.LoadRefusal.{LoadRefusal}

-- a number and a name, with a space between them; and a text with one word more, after a space
abbrev pub named_text : ℕ → List ℕ → List ℕ
named_text number name = (decimal number ++ codes " ") ++ name

abbrev pub with_word : List ℕ → List ℕ → List ℕ
with_word text word = (text ++ codes " ") ++ word

-- a fault of a feed: its number and name, and then the file and the record of a table's fault, or the file of a read that failed
abbrev pub fault_text : LoadFault → List ℕ
fault_text (LoadFault.Table fault) =
    with_word (with_word (named_text (fault_number (LoadFault.Table fault)) (fault_name (LoadFault.Table fault))) (file_name fault.file)) (decimal fault.row)
fault_text (LoadFault.FileFailed table) =
    with_word (named_text (fault_number (LoadFault.FileFailed table)) (fault_name (LoadFault.FileFailed table))) (file_name table)
fault_text fault = named_text (fault_number fault) (fault_name fault)

-- the counts of all shelves
abbrev pub counts_text : List ℕ → List ℕ
counts_text counts = flat_map (λ count. codes " " ++ decimal count) counts

-- a publish that was refused: where no shelf is free, the counts of all
abbrev pub publish_text : PublishFault → List ℕ
publish_text (PublishFault.ShelvesFull counts) =
    named_text (publish_fault_number (PublishFault.ShelvesFull counts)) (publish_fault_name (PublishFault.ShelvesFull counts)) ++ counts_text counts
publish_text fault = named_text (publish_fault_number fault) (publish_fault_name fault)

abbrev pub refusal_text : LoadRefusal → List ℕ
refusal_text (LoadRefusal.Load fault) = fault_text fault
refusal_text (LoadRefusal.Publish fault) = publish_text fault

-- what came of an order of the feed of this name
abbrev pub outcome_line : List ℕ → Result LoadedVersion LoadRefusal → List ℕ
outcome_line name (Ok loaded) = (((codes "loaded " ++ name) ++ codes " version ") ++ decimal loaded.version) ++ codes "\n"
outcome_line name (Err refusal) = (((codes "load " ++ name) ++ codes " refused ") ++ refusal_text refusal) ++ codes "\n"
