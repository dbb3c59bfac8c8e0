use Rattle.timetable.proofs.ClockLemmas.{read_is_written_lem}
use Rattle.timetable.proofs.laws.read_is_written.Goals as goal

pub returns : goal.returns
returns c = read_is_written_lem
