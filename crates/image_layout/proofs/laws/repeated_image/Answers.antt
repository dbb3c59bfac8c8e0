use Rattle.image_layout.proofs.Computed.{are_spelled, show_their_timetable}
use Rattle.image_layout.proofs.laws.repeated_image.Goals as goal

pub returns-clause-spelled : goal.returns-clause-spelled
returns-clause-spelled c = are_spelled.1

pub returns-clause-timetable : goal.returns-clause-timetable
returns-clause-timetable c = show_their_timetable.1
