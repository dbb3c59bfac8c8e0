-- A journey as plain lists.
use Rattle.std.specs.Prelude.{List, Option}
use Rattle.timetable.specs.declared.network.Footpath.{Footpath}
use Rattle.timetable.specs.declared.journey.Leg.{Leg}

-- a leg, and the walk after it
pub record RideValue : Type 0 where
  pub leg : Leg
  pub walk : List Footpath

-- a start (none, or one footpath) and then rides
pub record JourneyValue : Type 0 where
  pub start : Option Footpath
  pub rides : List RideValue
