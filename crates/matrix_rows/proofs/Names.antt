-- What sets are called.
use Rattle.std.proofs.Common.{◌≡◌, ◌<◌, ◌∙◌, ℕ, List, [], ◌∷◌, String, ap, get_or, length, map, refl, string_bytes, sym, arith}
use Rattle.std.specs.Global.{Global, Vec}
use Rattle.std.specs.List.{AllZip}
use Rattle.std.proofs.lemmas.List.{get_or-map, length-map}
use Rattle.timetable.specs.NamesValue.{NamesValue}
use Rattle.matrix_rows.specs.Tables.{AreNamed, set_bytes}

abbrev pub IsCalled : NamesValue → Vec ℕ → String Global → Type 0
IsCalled names set text = string_bytes text ≡ set_bytes names set.items

pub all_named : (names : NamesValue) (sets : List (Vec ℕ)) (texts : List (String Global)) → AllZip (IsCalled names) sets texts → AreNamed names sets texts
all_named names [] [] zipped = refl
all_named names [] (text ∷ texts) zipped = absurd zipped
all_named names (set ∷ sets) [] zipped = absurd zipped
all_named names (set ∷ sets) (text ∷ texts) zipped =
    ap (λ (t : List ℕ). t ∷ map string_bytes texts) zipped.0
    ∙ ap (λ (ts : List (List ℕ)). set_bytes names set.items ∷ ts) (all_named names sets texts zipped.1)

pub as_many : (names : NamesValue) (sets : List (Vec ℕ)) (texts : List (String Global)) → AreNamed names sets texts → length texts ≡ length sets
as_many names sets texts are =
    sym (length-map texts string_bytes) ∙ ap length are ∙ length-map sets (λ (set : Vec ℕ). set_bytes names set.items)

pub name_at : (names : NamesValue) (sets : List (Vec ℕ)) (texts : List (String Global)) (index : ℕ) (set : Vec ℕ) (text : String Global)
    → AreNamed names sets texts → index < length sets → string_bytes (get_or texts index text) ≡ set_bytes names (get_or sets index set).items
name_at names sets texts index set text are less =
    let called : Vec ℕ → List ℕ = λ s. set_bytes names s.items in
    let many = as_many names sets texts are in
    sym (get_or-map string_bytes texts index text [] (omega (arith, many, less)))
    ∙ ap (λ (ts : List (List ℕ)). get_or ts index []) are
    ∙ get_or-map called sets index set [] less
