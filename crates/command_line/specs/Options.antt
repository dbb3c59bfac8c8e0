-- What a command's arguments were given: the values under the id of each.
use Rattle.std.specs.Prelude.{◌≡◌, ◌<◌, ◌^◌, ℕ, Bool, false, List, [], Option, Some, IsSomeAnd, codes}
use Rattle.std.specs.Prelude.{option_map, unwrap_or}
use Rattle.std.specs.Borrow.{Bor}
use Rattle.std.specs.Option.{option_map_or}
use Rattle.std.specs.Str.{bytes_eq}
use Rattle.clap.specs.Walk.{Row, Text, all_of, first_of}
use Rattle.timetable.specs.Clocks.{SpellsClock}
use Rattle.command_line.specs.Values.{SpellsNumber}

-- the argument has this value
abbrev pub HasText : List Row → Text → Text → Type 0
HasText rows id text = first_of id rows ≡ Some text

-- or has none
abbrev pub HasMaybeText : List Row → Text → Option (Bor Text) → Type 0
HasMaybeText rows id text = first_of id rows ≡ option_map (λ t. t.now) text

-- all its values
abbrev pub values_of : List Row → Text → List Text
values_of rows id = unwrap_or (all_of id rows) []

-- an option without a value was given
abbrev pub is_given : List Row → Text → Bool
is_given rows id = option_map_or (λ text. bytes_eq text (codes "true")) (first_of id rows) false

-- the value of the argument is text of which this holds
abbrev pub Spells : List Row → Text → (Text → Type 0) → Type 0
Spells rows id P = IsSomeAnd (first_of id rows) P

abbrev pub HasClock : List Row → Text → ℕ → Type 0
HasClock rows id time = Spells rows id (λ text. SpellsClock text time)

abbrev pub HasNumber : List Row → Text → ℕ → Type 0
HasNumber rows id number = Spells rows id (λ text. SpellsNumber text number)

-- a number of so many bits at most
abbrev pub HasBits : List Row → Text → ℕ → ℕ → Type 0
HasBits rows id bits number = HasNumber rows id number × (number < 2 ^ bits)
