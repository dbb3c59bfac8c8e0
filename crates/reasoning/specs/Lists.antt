-- Lists that begin with another list.
use Rattle.std.specs.Prelude.{◌≡◌, List, ◌++◌}

-- `new` has the elements of `old`, then perhaps further ones
abbrev pub Extends : {X : Type 0} → List X → List X → Type 0
Extends {X} old new = (more : List X) × (new ≡ old ++ more)
