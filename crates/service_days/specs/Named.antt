-- The services that were named.
use Rattle.std.specs.Prelude.{ℕ, List, map}
use Rattle.std.specs.String.{string_bytes}
use Rattle.service_days.specs.declared.named.NamedServices.{NamedServices}

-- the names of the services, in the order in which they were first named
abbrev pub names_of : NamedServices → List (List ℕ)
names_of named = map string_bytes named.ids.keys
