-- How much a vector holds.
use Rattle.std.specs.Prelude.{◌⊎◌, ◌<◌, ◌≤◌, Vec, length, vec_capacity, vec_len}

-- a vector has no room for another item
abbrev pub IsFull : {X Z : Type 0} → Vec X Z → Type 0
IsFull items = vec_capacity items ≤ vec_len items

-- nor an index of 32 bits, perhaps
abbrev pub HasNoRoom : {X Z : Type 0} → Vec X Z → Type 0
HasNoRoom items = IsFull items ⊎ (4294967295 < length items.items)
