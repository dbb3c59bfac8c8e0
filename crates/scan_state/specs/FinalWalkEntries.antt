-- What is kept for a stop of the footpath to the nearest target.
use Rattle.std.specs.Prelude.{Bool, nat_le}
use Rattle.timetable.specs.declared.limits.TheConstants.{MAX_WALK_SECS}
use Rattle.scan_state.specs.declared.final_walks.FinalWalk.{FinalWalk}

-- whether an entry is a footpath: its seconds are no more than one takes
abbrev pub is_walk : FinalWalk → Bool
is_walk entry = nat_le entry.secs MAX_WALK_SECS
