use Rattle.timetable.proofs.ClockLemmas.{written_is_read_lem}
use Rattle.timetable.proofs.laws.written_is_read.Goals as goal

pub returns : goal.returns
returns c = written_is_read_lem
