use Rattle.std.proofs.Common.{◌≡◌, ℕ, ◌<◌, List, ◌++◌, take}
use Rattle.std.specs.List.{concat}
use Rattle.std.specs.Str.{IsUtf8}
use Rattle.timetable.specs.Legal.{At}
use Rattle.image_layout.specs.Spelling.{name_list}
use Rattle.image_writer.specs.Packing.{full_words, rest_of, waiting_bytes}
use Rattle.image_writer.proofs.text.write_text.Given as goal

abbrev pub invariant-loop-i : goal.invariant-loop-i
invariant-loop-i l =
    (l.words.items ≡ l.initial.words.items ++ full_words (concat (take l.i (name_list l.names))))
    × (waiting_bytes l.waiting ≡ rest_of (concat (take l.i (name_list l.names))))
    × ((k : ℕ) (name : List ℕ) → k < l.i → At (name_list l.names) k name → IsUtf8 name)
