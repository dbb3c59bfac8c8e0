-- Times in a picture: as the clock shows them on their day, and without seconds if none are needed.
use Rattle.std.specs.Prelude.{◌/◌, ◌%◌, ℕ, List, [], ◌∷◌, ◌++◌, Bool, not, ◌==◌, ◌&&◌, nat_lt, if◌then◌else◌, codes, decimal}
use Rattle.std.specs.List.{list_all}
use Rattle.timetable.specs.Clocks.{two_digits}
use Rattle.answer_pictures.specs.LineValue.{LineValue, StretchValue}

-- hours and minutes of the day
abbrev pub minute_text : ℕ → List ℕ
minute_text time = two_digits (time / 3600 % 24) ++ 58 ∷ two_digits (time / 60 % 60)

-- the seconds, if they are shown
abbrev pub seconds_text : Bool → ℕ → List ℕ
seconds_text exact time = if exact then 58 ∷ two_digits (time % 60) else []

-- after the first day, how many days later it is
abbrev pub days_text : ℕ → List ℕ
days_text time = if nat_lt time 86400 then [] else codes " +" ++ decimal (time / 86400)

-- a time, in a picture that shows seconds or one that doesn't
unfoldable pub moment_text : Bool → ℕ → List ℕ
moment_text exact time = minute_text time ++ seconds_text exact time ++ days_text time

-- a whole minute: the time loses nothing if its seconds aren't shown
abbrev pub is_whole : ℕ → Bool
is_whole time = time % 60 == 0

abbrev pub is_part_whole : StretchValue → Bool
is_part_whole s = is_whole s.start && is_whole s.end

abbrev pub is_line_whole : LineValue → Bool
is_line_whole line = is_whole line.departure && is_whole line.arrival && list_all is_part_whole line.stretches

-- seconds are shown exactly if some time of some journey has any
abbrev pub shows_seconds : List LineValue → Bool
shows_seconds lines = not (list_all is_line_whole lines)
