-- What is drawn of a journey, as lists of bytes.
use Rattle.std.specs.Prelude.{ℕ, List}
use Rattle.answer_pictures.specs.declared.lines.StretchKind.{StretchKind}

-- a part of a journey: its way, its start and end, the names of the stops where it begins and ends, and for a ride that of the trip
pub record StretchValue : Type 0 where
  pub way : StretchKind
  pub start : ℕ
  pub end : ℕ
  pub trip : List ℕ
  pub from : List ℕ
  pub to : List ℕ

-- when a journey departs and arrives, its parts, and what is written below them
pub record LineValue : Type 0 where
  pub departure : ℕ
  pub arrival : ℕ
  pub stretches : List StretchValue
  pub note : List ℕ

-- the names of the stops from and to which the journeys lead, and what was asked
pub record HeadingValue : Type 0 where
  pub from : List ℕ
  pub to : List ℕ
  pub about : List ℕ
