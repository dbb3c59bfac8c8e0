-- The image that `csa build` makes, and what it prints of it.
use Rattle.std.specs.Prelude.{◌≡◌, ◌≢◌, ◌⊎◌, Bool, false, true, List, ℕ, ℤ, ◌++◌, Option, codes, decimal}
use Rattle.connections.specs.declared.report.Report.{Report}
use Rattle.feed_loader.specs.Refused.{IsWantOfMemory}
use Rattle.feed_loader.specs.declared.fault.LoadFault.{LoadFault}
use Rattle.feed_commands.specs.declared.build.BuildFailure.{BuildFailure}
use Rattle.feed_commands.specs.declared.build.BuildFailure.TheVariants.{Refused, Unreadable, Unwritten, OutOfMemory}
use Rattle.command_requests.specs.declared.requests.BuildRequest.{BuildRequest}
use Rattle.feed_files.specs.Files.{Gives}
use Rattle.image_files.specs.Out.{OutFiles}
use Rattle.image_files.specs.Writing.{IsImagePut, IsUnwritable}
use Rattle.std.specs.declared.io.ErrorKind.TheVariants.{OutOfMemory as WasOutOfMemory}
use Rattle.feed_plans.specs.Zoning.{IsZoneUnreadable}
use Rattle.timetable.specs.NamesValue.{NamesValue}
use Rattle.timetable.specs.TimetableValue.{TimetableValue}
use Rattle.feed_commands.specs.Folders.{IsBuiltFrom}

-- if a feed isn't built because of a fault other than want of memory, then this holds of the fault
abbrev pub IfRefused : BuildFailure → (LoadFault → Type 0) → Type 0
IfRefused (Refused fault) Is = ¬ (IsWantOfMemory fault) → Is fault
IfRefused (Unreadable path) Is = Unit {0}
IfRefused (Unwritten path kind) Is = Unit {0}
IfRefused OutOfMemory Is = Unit {0}

-- if it isn't built because a file can't be read or written, then this holds
abbrev pub IfUnusable : BuildFailure → Type 0 → Type 0
IfUnusable (Refused fault) Unusable = Unit {0}
IfUnusable (Unreadable path) Unusable = Unusable
IfUnusable (Unwritten path kind) Unusable = kind ≢ WasOutOfMemory → Unusable
IfUnusable OutOfMemory Unusable = Unit {0}

-- the zone's file may not be read; or the image of the folder's files was made, and may not be written
abbrev pub IsUnusable : {D : Type 0} → Gives D → (List ℕ → Option (List ℕ) → Type 0) → (List ℕ → Type 0) → (Option ℤ → Type 0) → OutFiles → BuildRequest
    → Type 0
IsUnusable gives may_hold may_fail may_show disk request =
    IsZoneUnreadable may_fail request.plan.zone
    ⊎ (IsUnwritable disk request.out.now × ((t : TimetableValue) × (names : NamesValue) × (report : Report)
    × IsBuiltFrom gives request.folder.now may_hold may_show request.plan t names report))

-- how many stops, runs, connections and footpaths the image has
unfoldable pub made_text : Report → List ℕ
made_text report =
    (codes "stops " ++ decimal report.stops) ++ (codes " runs " ++ decimal report.runs) ++ (codes " connections " ++ decimal report.connections)
    ++ (codes " footpaths " ++ decimal report.footpaths)

-- how many trips were lifted, are flex trips, and are named in frequencies.txt, and how many rows of transfers were skipped
unfoldable pub changed_text : Report → List ℕ
changed_text report =
    (codes " lifted " ++ decimal report.lifted) ++ (codes " flex " ++ decimal report.flex) ++ (codes " frequencies " ++ decimal report.frequencies)
    ++ (codes " skipped " ++ decimal report.skipped)

unfoldable pub report_line : Report → List ℕ
report_line report = made_text report ++ changed_text report ++ codes "\n"

-- the same as an object of JSON on one line, whose keys are the words of the line in the order of their bytes
unfoldable pub json_head : Report → List ℕ
json_head report =
    (codes "{\"connections\":" ++ decimal report.connections) ++ (codes ",\"flex\":" ++ decimal report.flex)
    ++ (codes ",\"footpaths\":" ++ decimal report.footpaths) ++ (codes ",\"frequencies\":" ++ decimal report.frequencies)

unfoldable pub json_tail : Report → List ℕ
json_tail report =
    (codes ",\"lifted\":" ++ decimal report.lifted) ++ (codes ",\"runs\":" ++ decimal report.runs)
    ++ (codes ",\"skipped\":" ++ decimal report.skipped) ++ (codes ",\"stops\":" ++ decimal report.stops) ++ codes "}\n"

abbrev pub report_json : Report → List ℕ
report_json report = json_head report ++ json_tail report

-- the one that is asked for
abbrev pub report_asked : Bool → Report → List ℕ
report_asked true report = report_json report
report_asked false report = report_line report

-- the image of the folder's files was put at the path that was asked for, and the text has its counts
abbrev pub IsReport : {D : Type 0} → Gives D → (List ℕ → Option (List ℕ) → Type 0) → (Option ℤ → Type 0) → OutFiles → BuildRequest → List ℕ → Type 0
IsReport gives may_hold may_show disk request text =
    (t : TimetableValue) × (names : NamesValue) × (report : Report)
    × IsBuiltFrom gives request.folder.now may_hold may_show request.plan t names report × IsImagePut disk request.out.now t names
    × (text ≡ report_asked request.json report)
