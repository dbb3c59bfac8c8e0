use Rattle.timetable.proofs.ClockLemmas.{one_time_lem, time_below_end}
use Rattle.timetable.proofs.laws.one_time.Goals as goal

pub returns : goal.returns
returns c = record { one = one_time_lem; small = time_below_end }
