-- The legs of a journey, as a reply has them: each ride and each walk with the names of its stops.
use Rattle.std.specs.Prelude.{ℕ, List, Option, Some, None, codes, if◌then◌else◌, nat_lt, string_bytes}
use Rattle.serde_json.specs.Data.{Data, number, unsigned, string, object, Members, member, no_members}
use Rattle.timetable.specs.Clocks.{clock_bytes}
use Rattle.session_texts.specs.declared.legs.RideLeg.{RideLeg}
use Rattle.session_texts.specs.declared.legs.WalkLeg.{WalkLeg}

-- a ride: the trip, its service day and which of that day's repeats it is; the stop where it is boarded, and when it departs there;
-- the stop where it is left, and when it arrives there
pub record RideValue : Type 0 where
  pub trip : List ℕ
  pub day : ℕ
  pub repeat : ℕ
  pub from : List ℕ
  pub dep : ℕ
  pub to : List ℕ
  pub arr : ℕ

-- a walk: from a stop to a stop, and how many seconds it takes
pub record WalkValue : Type 0 where
  pub from : List ℕ
  pub to : List ℕ
  pub secs : ℕ

abbrev pub ridden : List ℕ → ℕ → ℕ → List ℕ → ℕ → List ℕ → ℕ → RideValue
ridden trip day repeat from dep to arr = record { trip = trip; day = day; repeat = repeat; from = from; dep = dep; to = to; arr = arr }

abbrev pub walked : List ℕ → List ℕ → ℕ → WalkValue
walked from to secs = record { from = from; to = to; secs = secs }

abbrev pub ride_value : RideLeg → RideValue
ride_value r = ridden (string_bytes r.trip) r.day r.repeat (string_bytes r.from) r.dep (string_bytes r.to) r.arr

abbrev pub walk_value : WalkLeg → WalkValue
walk_value w = walked (string_bytes w.from) (string_bytes w.to) w.secs

-- the repeat, unless it is 0, the first
abbrev pub later_repeat : ℕ → Option ℕ
later_repeat repeat = if nat_lt 0 repeat then Some repeat else None

abbrev pub repeat_member : Option ℕ → Members → Members
repeat_member None rest = rest
repeat_member (Some n) rest = member (codes "repeat") (number (unsigned n)) rest

-- its times are clock texts, as a point's
abbrev pub ride_data : RideValue → Data
ride_data r =
    object (member (codes "arr") (string (clock_bytes r.arr)) (member (codes "day") (number (unsigned r.day)) (member (codes "dep") (string (clock_bytes r.dep))
    (member (codes "from") (string r.from) (repeat_member (later_repeat r.repeat)
    (member (codes "to") (string r.to) (member (codes "trip") (string r.trip) no_members)))))))

abbrev pub walk_data : WalkValue → Data
walk_data w = object (member (codes "from") (string w.from) (member (codes "secs") (number (unsigned w.secs)) (member (codes "to") (string w.to) no_members)))
