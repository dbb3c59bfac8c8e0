-- The numbers and names of the faults of bytes.
use Rattle.std.specs.Prelude.{ℕ, List, codes}
use Rattle.image_layout.specs.declared.words.WordsFault.{WordsFault}
use Rattle.image_layout.specs.declared.words.WordsFault.TheVariants.{OddLength, OutOfMemory}

abbrev pub numbered_fault : WordsFault → ℕ × List ℕ
numbered_fault OddLength = (51, codes "OddLength")
numbered_fault OutOfMemory = (52, codes "OutOfMemory")
