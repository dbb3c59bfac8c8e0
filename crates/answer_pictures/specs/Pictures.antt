-- Pictures of answers as the texts of SVG files.
use Rattle.std.specs.Prelude.{◌≡◌, ◌+◌, ◌-◌, ◌*◌, ◌/◌, ◌≤◌, ℕ, List, [], ◌∷◌, ◌++◌, ◌==◌, Bool, false, nat_le, if◌then◌else◌, length}
use Rattle.std.specs.Prelude.{min, max, codes, decimal, Option, Some, None}
use Rattle.std.specs.List.{flat_map}
use Rattle.answer_pictures.specs.declared.axis.Axis.{Axis}
use Rattle.answer_pictures.specs.declared.lines.StretchKind.{StretchKind}
use Rattle.answer_pictures.specs.declared.lines.StretchKind.TheVariants.{Ride, Walk, Change}
use Rattle.answer_pictures.specs.LineValue.{StretchValue, LineValue, HeadingValue}
use Rattle.answer_pictures.specs.Moments.{moment_text, shows_seconds}
use Rattle.answer_pictures.specs.Style.{style, legend}
use Rattle.answer_pictures.specs.JourneyLines.{later}
use Rattle.answer_pictures.specs.Words.{escaped, escaped_cut}

-- the x coordinate of a time on an axis that begins at 190 and is 740 long
abbrev pub x_at : Axis → ℕ → ℕ
x_at axis time = 190 + (min time axis.end - axis.start) * 740 / max (axis.end - axis.start) 1

-- the length from one time to another: at least 1, so that it is seen however short it is
abbrev pub length_between : Axis → ℕ → ℕ → ℕ
length_between axis start end = max (x_at axis end - x_at axis start) 1

-- the journey departs no earlier than the first time, and arrives no later than the last
abbrev pub IsBetween : ℕ → ℕ → LineValue → Type 0
IsBetween first last line = (first ≤ line.departure) × (line.arrival ≤ last)

-- the axis covers the journey
abbrev pub LiesOn : Axis → LineValue → Type 0
LiesOn axis line = IsBetween axis.start axis.end line

abbrev pub attribute_text : List ℕ → ℕ → List ℕ
attribute_text name number = name ++ codes "=\"" ++ decimal number ++ codes "\""

-- the beginning of a group at a height
unfoldable pub group_text : ℕ → List ℕ
group_text y = codes "<g transform=\"translate(0 " ++ decimal y ++ codes ")\">\n"

-- a line down the picture at a mark of the axis
unfoldable pub grid_text : Axis → ℕ → ℕ → List ℕ
grid_text axis bottom time = codes "<path class=\"grid\" d=\"M" ++ decimal (x_at axis time) ++ codes " 110V" ++ decimal bottom ++ codes "\"/>\n"

-- the time at a mark
unfoldable pub tick_text : Axis → ℕ → List ℕ
tick_text axis time =
    codes "<text class=\"tick\"" ++ attribute_text (codes " x") (x_at axis time) ++ codes ">" ++ moment_text false time ++ codes "</text>\n"

-- the times of all marks, at a height
unfoldable pub scale_text : Axis → List ℕ → ℕ → List ℕ
scale_text axis marks y = group_text y ++ flat_map (tick_text axis) marks ++ codes "</g>\n"

-- how a part's shape begins: a ride is a thick bar, a walk a dashed line, a change a dot
abbrev pub way_text : StretchKind → List ℕ
way_text Ride = codes "<rect class=\"ride\" y=\"-9\" height=\"18\" rx=\"4\" x=\""
way_text Walk = codes "<path class=\"walk\" d=\"M"
way_text Change = codes "<path class=\"change\" d=\"M"

abbrev pub between_text : StretchKind → List ℕ
between_text Ride = codes "\" width=\""
between_text Walk = codes " 0h"
between_text Change = codes " 0h"

abbrev pub end_text : StretchKind → List ℕ
end_text Ride = codes "</title></rect>\n"
end_text Walk = codes "</title></path>\n"
end_text Change = codes "</title></path>\n"

-- the shape of a part: where it begins on the axis, and how long it is
unfoldable pub shape_text : Axis → StretchValue → List ℕ
shape_text axis s =
    way_text s.way ++ decimal (x_at axis s.start) ++ between_text s.way ++ decimal (length_between axis s.start s.end) ++ codes "\"><title>"

-- what a part is: a ride by its trip, or on foot, or a change
abbrev pub lead_text : StretchKind → List ℕ → List ℕ
lead_text Ride trip = escaped trip
lead_text Walk trip = codes "on foot"
lead_text Change trip = codes "change"

-- a stop and a time
unfoldable pub end_at : List ℕ → Bool → List ℕ → ℕ → List ℕ
end_at before exact stop time = before ++ escaped stop ++ codes " " ++ moment_text exact time

-- the title of a part, which is seen when one points at it
unfoldable pub tooltip_text : Bool → StretchValue → List ℕ
tooltip_text exact s = lead_text s.way s.trip ++ end_at (codes ": ") exact s.from s.start ++ end_at (codes ", ") exact s.to s.end

-- a trip's name on its ride, if it has room
abbrev pub has_room : Axis → StretchValue → Bool
has_room axis s = nat_le (length s.trip) ((length_between axis s.start s.end - 10) / 7)

unfoldable pub trip_text : Axis → StretchValue → List ℕ
trip_text axis s = codes "<text class=\"trip\" y=\"4\" dx=\"5\"" ++ attribute_text (codes " x") (x_at axis s.start)
    ++ (codes ">" ++ escaped s.trip ++ codes "</text>\n")

abbrev pub badge_text : Axis → StretchValue → List ℕ
badge_text axis s = if has_room axis s then trip_text axis s else []

-- a part of a journey
unfoldable pub stretch_text : Axis → Bool → StretchValue → List ℕ
stretch_text axis exact s = shape_text axis s ++ tooltip_text exact s ++ end_text s.way ++ badge_text axis s

-- when a journey departs and arrives
unfoldable pub label_text : Bool → LineValue → List ℕ
label_text exact line =
    codes "<text class=\"time\" x=\"16\" y=\"5\">" ++ moment_text exact line.departure ++ (32 ∷ 226 ∷ 128 ∷ 147 ∷ 32 ∷ []) ++ moment_text exact line.arrival
    ++ codes "</text>\n"

-- a line from the departure to the arrival: wherever no part covers it, it shows waiting
unfoldable pub wait_text : Axis → LineValue → List ℕ
wait_text axis line =
    codes "<path class=\"wait\" d=\"M" ++ decimal (x_at axis line.departure) ++ codes " 0H" ++ decimal (x_at axis line.arrival) ++ codes "\"/>\n"

-- a note below a line, cut to what the axis has room for; the whole note is seen when one points at it
unfoldable pub note_text : List ℕ → List ℕ
note_text note =
    (codes "<svg x=\"190\" y=\"10\" width=\"740\" height=\"20\"><text class=\"note\" y=\"12\"><title>" ++ escaped note ++ codes "</title>")
    ++ escaped_cut 120 note ++ codes "</text></svg>\n</g>\n"

-- a journey at a height: a group of its times, its parts and its note
unfoldable pub line_text : Axis → Bool → ℕ → LineValue → List ℕ
line_text axis exact y line =
    group_text y ++ label_text exact line ++ wait_text axis line ++ flat_map (stretch_text axis exact) line.stretches ++ note_text line.note

-- the journeys one after another, each a group of its own
abbrev pub AreDrawn : Axis → Bool → List LineValue → List ℕ → Type 0
AreDrawn axis exact [] text = text ≡ []
AreDrawn axis exact (line ∷ lines) text =
    (y : ℕ) × (rest : List ℕ) × AreDrawn axis exact lines rest × (text ≡ line_text axis exact y line ++ rest)

-- the direct walk, from the beginning of the axis on
unfoldable pub walk_row : Axis → ℕ → ℕ → List ℕ
walk_row axis y secs =
    group_text y ++ codes "<text class=\"time\" x=\"16\" y=\"5\">direct walk</text>\n<path class=\"walk\" d=\"M190 0h"
    ++ decimal (length_between axis axis.start (later axis.start secs))
    ++ codes "\"/>\n<text class=\"note\" x=\"190\" y=\"22\">on foot all the way, at any time: "
    ++ (decimal secs ++ codes " s</text>\n</g>\n")

abbrev pub walk_text : Axis → ℕ → Option ℕ → List ℕ
walk_text axis y None = []
walk_text axis y (Some secs) = walk_row axis y secs

-- that there is no journey, or how many aren't drawn
abbrev pub remark_words : ℕ → ℕ → List ℕ
remark_words shown left =
    if left == 0 then (if shown == 0 then codes "no journey departs in this window and arrives in time" else [])
    else (codes "the first journeys of the window; not drawn: " ++ decimal left)

unfoldable pub remark_text : ℕ → ℕ → ℕ → List ℕ
remark_text y shown left =
    codes "<text class=\"remark\" x=\"190\"" ++ attribute_text (codes " y") y ++ codes ">" ++ remark_words shown left ++ codes "</text>\n"

-- the beginning of a picture: its size, its title and how it looks
unfoldable pub size_text : ℕ → List ℕ
size_text height =
    codes "<svg xmlns=\"http://www.w3.org/2000/svg\" viewBox=\"0 0 960 " ++ decimal height ++ codes "\" width=\"960\""
    ++ attribute_text (codes " height") height

unfoldable pub title_text : HeadingValue → List ℕ
title_text h =
    (codes " role=\"img\" aria-labelledby=\"title about\">\n<title id=\"title\">" ++ escaped h.from ++ (32 ∷ 226 ∷ 134 ∷ 146 ∷ 32 ∷ []))
    ++ (codes "" ++ escaped h.to ++ codes "</title>\n<desc id=\"about\">") ++ (codes "" ++ escaped h.about ++ codes ". ")

unfoldable pub shown_title : HeadingValue → List ℕ
shown_title h =
    (codes "<text class=\"title\" x=\"16\" y=\"28\">" ++ escaped_cut 38 h.from ++ (32 ∷ 226 ∷ 134 ∷ 146 ∷ 32 ∷ []))
    ++ (codes "" ++ escaped_cut 38 h.to ++ codes "</text>\n<text class=\"note\" x=\"16\" y=\"48\">") ++ (codes "" ++ escaped h.about ++ codes "</text>\n")

unfoldable pub heading_text : HeadingValue → ℕ → ℕ → List ℕ
heading_text h shown left =
    title_text h ++ remark_words shown left ++ (codes "</desc>\n<style>" ++ style ++ codes "</style>\n<rect class=\"paper\" width=\"100%\" height=\"100%\"/>\n")
    ++ shown_title h ++ legend

-- the axis: a line down at each mark, and the times of all marks at some heights
unfoldable pub axis_text : Axis → ℕ → List ℕ → List ℕ → List ℕ
axis_text axis bottom marks heights = flat_map (grid_text axis bottom) marks ++ flat_map (scale_text axis marks) heights

-- an SVG file with its heading and the axis, the direct walk if there is one, a group for each journey in order and for no other, and then that
-- there is none, or how many aren't drawn; seconds are left out only if no time of a journey has any
pub record IsPicture (h : HeadingValue) (axis : Axis) (walk : Option ℕ) (lines : List LineValue) (left : ℕ) (text : List ℕ) : Type 0 where
  pub height : ℕ
  pub bottom : ℕ
  pub below : ℕ
  pub top : ℕ
  pub marks : List ℕ
  pub heights : List ℕ
  pub drawn : List ℕ
  pub are_drawn : AreDrawn axis (shows_seconds lines) lines drawn
  pub is : text ≡
      (size_text height ++ heading_text h (length lines) left) ++ axis_text axis bottom marks heights ++ walk_text axis top walk ++ drawn
      ++ (remark_text below (length lines) left ++ codes "</svg>\n")
