-- The service days of a feed, as lines and as an object of JSON.
use Rattle.std.specs.Prelude.{◌≡◌, ◌⊎◌, ◌++◌, ◌+◌, ◌-◌, ◌/◌, ◌%◌, min, nat_lt, if◌then◌else◌, ℕ, zero, suc, List, [], Option, Some, None, codes, decimal}
use Rattle.std.specs.List.{flat_map}
use Rattle.gtfs_rows.specs.declared.values.Day.{Day}
use Rattle.gtfs_tables.specs.declared.tables.Feed.{Feed}
use Rattle.timetable.specs.Clocks.{two_digits}
use Rattle.service_days.specs.Days.{day_after}
use Rattle.connections.specs.Days.{days_from}
use Rattle.text_pieces.specs.declared.form.Form.{Form}
use Rattle.feed_days.specs.declared.span.DaySpan.{DaySpan}
use Rattle.feed_days.specs.Service.{HoldsOfNone, IsSpan, day_ordinal, has_service, trips_on}

-- a day as YYYYMMDD
unfoldable pub date_text : Day → List ℕ
date_text d = ((two_digits (d.year / 100) ++ two_digits (d.year % 100)) ++ two_digits d.month) ++ two_digits d.day

-- a day between two texts
unfoldable pub dated_text : List ℕ → Day → List ℕ → List ℕ
dated_text before day after = (before ++ date_text day) ++ after

-- the first and the last day, each as a line, and as a member of an object of JSON
abbrev pub first_text : Form → Day → List ℕ
first_text Form.Lines day = dated_text (codes "first ") day (codes "\n")
first_text Form.Json day = dated_text (codes "{\"first\":\"") day (codes "\"")

abbrev pub last_text : Form → Day → List ℕ
last_text Form.Lines day = dated_text (codes "last ") day (codes "\n")
last_text Form.Json day = dated_text (codes ",\"last\":\"") day (codes "\"")

-- a day, and how many trips run on it
unfoldable pub trips_line : Day → ℕ → List ℕ
trips_line day trips = ((codes "trips-" ++ date_text day) ++ (codes " " ++ decimal trips)) ++ codes "\n"

unfoldable pub trips_member : Day → ℕ → List ℕ
trips_member day trips = (codes ",\"trips-" ++ date_text day) ++ (codes "\":" ++ decimal trips)

abbrev pub trips_text : Form → Day → ℕ → List ℕ
trips_text Form.Lines day trips = trips_line day trips
trips_text Form.Json day trips = trips_member day trips

abbrev pub day_text : Form → Feed → Day → List ℕ
day_text form feed day = trips_text form day (trips_on feed day)

-- the day that is n days after another
unfoldable pub days_after : Day → ℕ → Day
days_after day zero = day
days_after day (suc n) = day_after (days_after day n)

-- how many days there are from the first to the last, both included
abbrev pub days_of : DaySpan → ℕ
days_of span = day_ordinal span.last + 1 - day_ordinal span.first

-- the days that are listed: the first 366, or all if there are fewer
unfoldable pub listed_days : DaySpan → List Day
listed_days span = days_from span.first (min 366 (days_of span))

-- the first day that isn't, if there are more days
unfoldable pub first_unlisted : DaySpan → Option Day
first_unlisted span = if nat_lt 366 (days_of span) then Some (days_after span.first 366) else None

abbrev pub unlisted_text : Form → Option Day → List ℕ
unlisted_text form None = []
unlisted_text Form.Lines (Some day) = dated_text (codes "unlisted ") day (codes "\n")
unlisted_text Form.Json (Some day) = dated_text (codes ",\"unlisted\":\"") day (codes "\"")

-- the text of a span: the first and the last day, each day with its trips, and the first day that isn't listed
unfoldable pub span_text : Form → Feed → DaySpan → List ℕ
span_text form feed span =
    ((first_text form span.first ++ last_text form span.last) ++ flat_map (day_text form feed) (listed_days span))
    ++ unlisted_text form (first_unlisted span)

-- the text of a feed without service
abbrev pub none_text : Form → List ℕ
none_text Form.Lines = codes "first none\nlast none\n"
none_text Form.Json = codes "{\"first\":null,\"last\":null"

-- this is the text of a feed: for the span of its service days, or for none if it has no service
abbrev pub IsDaysText : Form → Feed → List ℕ → Type 0
IsDaysText form feed text =
    ((span : DaySpan) × IsSpan (has_service feed) span × (text ≡ span_text form feed span))
    ⊎ (HoldsOfNone (has_service feed) × (text ≡ none_text form))

-- these are the lines of a feed
abbrev pub AreDayLines : Feed → List ℕ → Type 0
AreDayLines feed lines = IsDaysText Form.Lines feed lines

-- the same as an object of JSON on one line
abbrev pub IsDaysJson : Feed → List ℕ → Type 0
IsDaysJson feed json = (members : List ℕ) × IsDaysText Form.Json feed members × (json ≡ members ++ codes "}\n")
