-- What `csa tables` prints of a feed's tables.
use Rattle.std.specs.Prelude.{◌≡◌, Bool, ℕ, List, ◌++◌, codes, decimal, false, length, true}
use Rattle.gtfs_tables.specs.Feeds.{IsJoined}
use Rattle.gtfs_tables.specs.declared.tables.Feed.{Feed}
use Rattle.gtfs_tables.specs.declared.tables.Tables.{Tables}
use Rattle.feed_files.specs.Files.{Gives}
use Rattle.command_requests.specs.declared.requests.TablesRequest.{TablesRequest}
use Rattle.feed_commands.specs.Folders.{AreTablesOf}
use Rattle.feed_commands.specs.declared.tables.TableCounts.{TableCounts}

-- how many records each table has
abbrev pub counts_of : Tables → TableCounts
counts_of t =
    record {
      agencies = length t.agencies.items;
      stops = length t.stops.items;
      trips = length t.trips.items;
      stop_times = length t.stop_times.rows.items;
      calendar = length t.calendar.items;
      calendar_dates = length t.calendar_dates.items;
      transfers = length t.transfers.items;
    }

-- how many agencies, stops, trips and stop times there are
unfoldable pub trips_text : TableCounts → List ℕ
trips_text counts =
    (codes "tables agencies " ++ decimal counts.agencies) ++ (codes " stops " ++ decimal counts.stops) ++ (codes " trips " ++ decimal counts.trips)
    ++ (codes " stop_times " ++ decimal counts.stop_times)

-- how many records there are in either calendar, and how many transfers
unfoldable pub services_text : TableCounts → List ℕ
services_text counts =
    (codes " calendar " ++ decimal counts.calendar) ++ (codes " calendar_dates " ++ decimal counts.calendar_dates)
    ++ (codes " transfers " ++ decimal counts.transfers)

abbrev pub counts_text : TableCounts → List ℕ
counts_text counts = trips_text counts ++ services_text counts ++ codes "\n"

-- the same as an object of JSON on one line, whose keys are the words of the line in the order of their bytes: agencies and either calendar, and then the rest
unfoldable pub services_json : TableCounts → List ℕ
services_json counts =
    (codes "{\"agencies\":" ++ decimal counts.agencies) ++ (codes ",\"calendar\":" ++ decimal counts.calendar)
    ++ (codes ",\"calendar_dates\":" ++ decimal counts.calendar_dates)

unfoldable pub trips_json : TableCounts → List ℕ
trips_json counts =
    (codes ",\"stop_times\":" ++ decimal counts.stop_times) ++ (codes ",\"stops\":" ++ decimal counts.stops)
    ++ (codes ",\"transfers\":" ++ decimal counts.transfers) ++ (codes ",\"trips\":" ++ decimal counts.trips)

abbrev pub counts_json : TableCounts → List ℕ
counts_json counts = services_json counts ++ trips_json counts ++ codes "}\n"

-- the one that is asked for
abbrev pub counts_asked : Bool → TableCounts → List ℕ
counts_asked true counts = counts_json counts
counts_asked false counts = counts_text counts

-- the tables can be joined, so nothing is wrong with them, and these are their counts
abbrev pub AreCountsOfJoined : Tables → TableCounts → Type 0
AreCountsOfJoined t counts = (feed : Feed) × IsJoined false t feed × (counts ≡ counts_of t)

-- these are the counts of the tables of the folder's files, which can be joined
abbrev pub AreCountsOf : {D : Type 0} → Gives D → List ℕ → TableCounts → Type 0
AreCountsOf gives folder counts = (t : Tables) × AreTablesOf gives folder t × AreCountsOfJoined t counts

-- the text is that of these counts
abbrev pub IsCounts : {D : Type 0} → Gives D → TablesRequest → List ℕ → Type 0
IsCounts gives request text =
    (counts : TableCounts) × AreCountsOf gives request.folder.now counts × (text ≡ counts_asked request.json counts)
