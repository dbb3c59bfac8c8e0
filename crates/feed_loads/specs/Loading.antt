-- What comes of an order to load a feed.
use Rattle.std.specs.Prelude.{◌≡◌, ◌≤◌, ◌⊎◌, ℕ, List, Option, Some, None, Result, Ok, Err, MatchOption}
use Rattle.image_layout.specs.Image.{ImageValue}
use Rattle.connections.specs.declared.days.TheConstants.{MAX_DAYS}
use Rattle.connections.specs.declared.report.Report.{Report}
use Rattle.feed_files.specs.Files.{FileWords}
use Rattle.feed_files.specs.Reading.{Content}
use Rattle.feed_files.specs.Reads.{AllWereRead, Shows, SomeWereRead}
use Rattle.feed_loader.specs.Faults.{failed_by, fault_number}
use Rattle.feed_loader.specs.Refused.{IsLoadRefusal, IsLoaded, IsWantOfMemory}
use Rattle.feed_loader.specs.declared.fault.LoadFault.{LoadFault}
use Rattle.feed_loader.specs.declared.plan.Plan.{Plan}
use Rattle.shelves.specs.FaultNumber.{publish_fault_number}
use Rattle.load_orders.specs.declared.answer_channels.LoadAnswer.{LoadAnswer}
use Rattle.shelves.specs.Seats.{ShowsPublish, ShowsRefusal, ShowsCollection}
use Rattle.shelves.specs.declared.collected.Collected.{Collected}
use Rattle.shelves.specs.declared.faults.PublishFault.{PublishFault}
use Rattle.shelves.specs.declared.answers.LoaderAnswer.{LoaderAnswer}
use Rattle.feed_loads.specs.Words.{OutcomeWords}
use Rattle.feed_loads.specs.declared.loading.LoadedVersion.{LoadedVersion}
use Rattle.feed_loads.specs.declared.refusal.LoadRefusal.{LoadRefusal}

-- the plan is for one day at least, and for no more than an image can have
pub record HasDays (plan : Plan) : Type 0 where
  pub some : 1 ≤ plan.days
  pub few : plan.days ≤ MAX_DAYS

-- the image of what the files hold, and its counts
abbrev pub IsImageOf : Content → Plan → ImageValue → Report → Type 0
IsImageOf content plan image report = IsLoaded content plan image.timetable image.names report

-- the first thing that is wrong with what the files hold, unless memory ran out
abbrev pub MayRefuse : Content → Plan → LoadFault → Type 0
MayRefuse content plan fault = ¬ (IsWantOfMemory fault) → IsLoadRefusal content plan fault

-- a refusal from before a publish was tried: there is no image; or there was no memory to share it, which is refused as a publish that wants memory
abbrev pub IsEarly : LoadRefusal → Type 0
IsEarly (LoadRefusal.Load fault) = Unit {0}
IsEarly (LoadRefusal.Publish fault) = fault ≡ PublishFault.OutOfMemory

-- the image becomes this version, and then shelves are collected
pub record PublishesAndCollects (before : List LoaderAnswer) (image : ImageValue) (version : ℕ) (after : List LoaderAnswer) : Type 0 where
  pub between : List LoaderAnswer
  pub found : Collected
  pub publish : ShowsPublish before image version between
  pub collect : ShowsCollection between found after

-- nothing was published: there is no image, there was no memory to share it, or the publish was refused at the loader's seat
abbrev pub IsNotPublished : List LoaderAnswer → LoadRefusal → List LoaderAnswer → Type 0
IsNotPublished before (LoadRefusal.Load fault) after = after ≡ before
IsNotPublished before (LoadRefusal.Publish fault) after = ((after ≡ before) × (fault ≡ PublishFault.OutOfMemory)) ⊎ ShowsRefusal before fault after

-- each file was read once, and what the files show has this image, with these counts
pub record IsMadeOf {D : Type 0} (words : FileWords D) (old new : D) (plan : Plan) (made : ImageValue × Report) : Type 0 where
  pub all_read : AllWereRead (words.reads old) (words.reads new)
  pub is_image : (content : Content) → Shows words old new content → IsImageOf content plan made.0 made.1

-- what a refusal says of the files: that what they show is refused so; or, if the publish was refused, that each was read once, and that what they
-- show has an image
abbrev pub IsRefusalOf : {D : Type 0} → FileWords D → D → D → Plan → LoadRefusal → Type 0
IsRefusalOf words old new plan (LoadRefusal.Load fault) = (content : Content) → Shows words old new content → MayRefuse content plan fault
IsRefusalOf words old new plan (LoadRefusal.Publish fault) = (made : ImageValue × Report) × IsMadeOf words old new plan made

-- what a load changes: the feed's files, and the loader's seat
pub record LoadState (D L : Type 0) : Type 0 where
  pub files : D
  pub loader : L

abbrev pub load_state : {D L : Type 0} → D → L → LoadState D L
load_state files loader = record { files = files; loader = loader }

-- what came of reading the files: all is well also where only the publish was refused
abbrev pub reading_refused : LoadRefusal → Result (Unit {0}) LoadFault
reading_refused (LoadRefusal.Load fault) = Err fault
reading_refused (LoadRefusal.Publish fault) = Ok tt

abbrev pub reading : {T : Type 0} → Result T LoadRefusal → Result (Unit {0}) LoadFault
reading (Ok t) = Ok tt
reading (Err refusal) = reading_refused refusal

-- what a load leaves of the files: they are known to hold what they held; and a read of them failed exactly if the outcome says so, and it was of the
-- file that the outcome names
pub record FilesGoOn {D T : Type 0} (words : FileWords D) (a : D) (outcome : Result T LoadRefusal) (b : D) : Type 0 where
  pub holds : words.holds b ≡ words.holds a
  pub failed : words.failed b ≡ failed_by (words.failed a) (reading outcome)

-- what comes of files: each was read once, the image of what they show is published as the version that the answer names, with its counts, and a notice of
-- that version comes; or the first of them were read, nothing is published, and the first refusal is reported
abbrev pub ComesOf : {D T L N : Type 0} → OutcomeWords D T L N → Plan → LoadState D L
    → Result (LoadedVersion × Option N) LoadRefusal → LoadState D L → Type 0
ComesOf words plan a (Ok loaded) b =
    (image : ImageValue)
    × IsMadeOf words.files a.files b.files plan (image, loaded.0.report)
    × PublishesAndCollects (words.loader.answers a.loader) image loaded.0.version (words.loader.answers b.loader)
    × MatchOption loaded.1 ⊥ (λ notice. words.version notice ≡ loaded.0.version)
ComesOf words plan a (Err refusal) b =
    SomeWereRead (words.files.reads a.files) (words.files.reads b.files)
    × IsRefusalOf words.files a.files b.files plan refusal
    × IsNotPublished (words.loader.answers a.loader) refusal (words.loader.answers b.loader)

-- what comes of a load, and what it leaves of the files
pub record IsLoadOutcome {D T L N : Type 0} (words : OutcomeWords D T L N) (plan : Plan) (a : LoadState D L)
    (outcome : Result (LoadedVersion × Option N) LoadRefusal) (b : LoadState D L) : Type 0 where
  pub comes : ComesOf words plan a outcome b
  pub files : FilesGoOn words.files a.files outcome b.files

-- what is reported of a load: its outcome without the notice
abbrev pub outcome_alone : {N : Type 0} → Result (LoadedVersion × Option N) LoadRefusal → Result LoadedVersion LoadRefusal
outcome_alone (Ok loaded) = Ok loaded.0
outcome_alone (Err refusal) = Err refusal

-- the number under which a refusal is reported
abbrev pub load_refusal_number : LoadRefusal → ℕ
load_refusal_number (LoadRefusal.Load fault) = fault_number fault
load_refusal_number (LoadRefusal.Publish fault) = publish_fault_number fault

-- what the worker that waits for a load is answered. A version always comes with a notice (`ComesOf`), so `Unnoticed` is never answered: the type of `publish`
-- has that case
abbrev pub notice_answer : {N : Type 0} → Option N → LoadAnswer N
notice_answer (Some notice) = LoadAnswer.Published notice
notice_answer None = LoadAnswer.Unnoticed

abbrev pub load_answer : {N : Type 0} → Result (LoadedVersion × Option N) LoadRefusal → LoadAnswer N
load_answer (Ok loaded) = notice_answer loaded.1
load_answer (Err refusal) = LoadAnswer.Refused (load_refusal_number refusal)
