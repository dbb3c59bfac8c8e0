-- What a command read from a folder is what that folder may hold.
use Rattle.std.proofs.Common.{◌≡◌, ◌⊎◌, ◌∷◌, ◌++◌, ◌∙◌, [], ℕ, ℤ, List, Option, Result, Ok, Err, OnOk, ap, inr, map, refl, subst, sym, take}
use Rattle.std.specs.Prelude.{All, IfErr, IfOk}
use Rattle.connections.specs.declared.report.Report.{Report}
use Rattle.command_requests.specs.declared.plans.PlanText.{PlanText}
use Rattle.feed_files.proofs.FolderReads.{may_hold, same_folder}
use Rattle.feed_files.specs.Files.{FileRead, Gives, Holds, MayBeRead, MayFail, opened}
use Rattle.feed_files.specs.Outcome.{failed_by}
use Rattle.feed_files.specs.Reading.{Content, HoldsTables, NoTables, Tells}
use Rattle.feed_files.specs.Reads.{AllWereRead, AreRead, SomeWereRead, all_tables, read_of}
use Rattle.feed_files.specs.declared.disk.NodeState.{NodeState}
use Rattle.feed_files.specs.declared.reading.ReadFault.{ReadFault}
use Rattle.feed_files.specs.declared.reading.ReadFault.TheVariants as reads
use Rattle.feed_loader.specs.Faults.{failed_by as failed_by_load, load_fault_of_read}
use Rattle.feed_loader.specs.Refused.{IsLoadRefusal, IsLoaded}
use Rattle.feed_loader.specs.declared.fault.LoadFault.{LoadFault}
use Rattle.feed_loader.specs.declared.fault.LoadFault.TheVariants as faults
use Rattle.feed_loader.specs.declared.plan.Plan.{Plan}
use Rattle.feed_plans.specs.Zoning.{IsPlanAskedBy, IsZoneUnread, IsZoneUnreadable}
use Rattle.feed_plans.specs.declared.zones.PlanFailure.{PlanFailure}
use Rattle.command_requests.specs.declared.plans.ZoneText.{ZoneText}
use Rattle.std.specs.Borrow.{Bor}
use Rattle.gtfs_rows.specs.declared.fault.Table.{Table}
use Rattle.gtfs_tables.specs.declared.tables.Tables.{Tables}
use Rattle.timetable.specs.NamesValue.{NamesValue}
use Rattle.timetable.specs.TimetableValue.{TimetableValue}
use Rattle.feed_commands.specs.Building.{IfRefused, IfUnusable}
use Rattle.feed_commands.specs.Folders.{AreTablesOf, HoldsOfRead, IsBuildRefusal, IsBuiltFrom, MayBeOf, failed_as}
use Rattle.feed_commands.specs.declared.build.BuildFailure.{BuildFailure}
use Rattle.feed_commands.specs.declared.build.BuildFailure.TheVariants.{Refused, Unreadable, Unwritten, OutOfMemory}

-- if nothing was read at first, then all that was read was read since
read_since : (content : Content) (ts : List Table) {began then : List ℕ} {old new : List FileRead} → then ≡ began → old ≡ []
    → AreRead content ts [] new → AreRead content ts (opened began ∷ old) (opened then ∷ new)
read_since content ts {began} {then} {old} {new} at none read =
    let grown : new ≡ old ++ map (read_of content) ts =
    subst (λ (before : List FileRead). new ≡ before ++ map (read_of content) ts) (sym none) read in
    let first : opened then ≡ opened began = ap opened at in cc

-- a weaker statement holds of all content that agrees with what was read
pub of_read_weaker : {D : Type 0} {gives : Gives D} {folder : List ℕ} {failed : List (List ℕ)} (A B : Content → Type 0)
    → ((content : Content) → A content → B content) → HoldsOfRead gives folder failed A → HoldsOfRead gives folder failed B
of_read_weaker A B follows read =
    record {
      disk = read.disk;
      state = read.state;
      reads = read.reads;
      first = read.first;
      given = read.given;
      unread = read.unread;
      holds = λ content ts agrees. follows content (read.holds content ts agrees);
    }

-- a weaker statement holds of the fault for which a feed isn't built
pub refused_weaker : (failure : BuildFailure) (A B : LoadFault → Type 0) → ((fault : LoadFault) → A fault → B fault)
    → IfRefused failure A → IfRefused failure B
refused_weaker (Refused fault) A B follows is = λ unless. follows fault (is unless)
refused_weaker (Unreadable path) A B follows is = tt
refused_weaker (Unwritten path kind) A B follows is = tt
refused_weaker OutOfMemory A B follows is = tt

-- a weaker statement holds if it isn't built because a file can't be used
pub unusable_weaker : (failure : BuildFailure) (A B : Type 0) → (A → B) → IfUnusable failure A → IfUnusable failure B
unusable_weaker (Refused fault) A B follows is = tt
unusable_weaker (Unreadable path) A B follows is = follows is
unusable_weaker (Unwritten path kind) A B follows is = λ other. follows (is other)
unusable_weaker OutOfMemory A B follows is = tt

-- a zone that wasn't read is that of a file
pub zone_unreadable : (may_fail : List ℕ → Type 0) (zone : ZoneText) (path : Bor (List ℕ)) → IsZoneUnread may_fail zone (PlanFailure.Unreadable path)
    → IsZoneUnreadable may_fail zone
zone_unreadable may_fail (ZoneText.Fixed ahead) path none = none
zone_unreadable may_fail (ZoneText.Posix rule) path none = none
zone_unreadable may_fail (ZoneText.File file) path unread = unread.1

-- which reads failed doesn't depend on what a load would have given
pub as_failed : (T : Type 0) (before : List (List ℕ)) (fault : LoadFault) → failed_by_load {T = T} before (Err fault) ≡ failed_as before fault
as_failed T before (faults.FileFailed table) = refl
as_failed T before (faults.Table fault) = refl
as_failed T before (faults.Day fault) = refl
as_failed T before (faults.Range range) = refl
as_failed T before (faults.Footpaths fault) = refl
as_failed T before (faults.Image fault) = refl

pub as_read : (before : List (List ℕ)) (fault : ReadFault) → failed_by {T = Tables} before (Err fault) ≡ failed_as before (load_fault_of_read fault)
as_read before (reads.Table fault) = refl
as_read before (reads.FileFailed table) = refl

-- over the files of a folder in some state: first (`began`, `old`) and later (`then`, `new`)
module _ {D : Type 0} (gives : Gives D) (disk : D) (state : Option NodeState) (folder began then : List ℕ)
    (old new : List FileRead) where
  may_be_of : (content : Content) → began ≡ folder
      → AreRead content all_tables (opened began ∷ old) (opened then ∷ new)
      → ∥ All (MayBeRead (gives disk then state)) new ∥₁ → MayBeOf gives folder content
  may_be_of content same read given = (
    disk,
    state,
    may_hold (λ at. gives disk at state) content all_tables folder then old new
        (subst (λ at. AreRead content all_tables (opened at ∷ old) (opened then ∷ new)) same read) given,
  )

  pub built_of : (zone_file : List ℕ → Option (List ℕ) → Type 0) (may_show : Option ℤ → Type 0) (asked : PlanText) (plan : Plan) (t : TimetableValue)
      (names : NamesValue) (report : Report) → began ≡ folder → IsPlanAskedBy zone_file may_show asked plan → ∥ All (MayBeRead (gives disk then state)) new ∥₁
      → (content : Content) × AreRead content all_tables (opened began ∷ old) (opened then ∷ new)
      × IsLoaded content plan t names report
      → IsBuiltFrom gives folder zone_file may_show asked t names report
  built_of zone_file may_show asked plan t names report same planned given (content, read, loaded) =
      (plan, content, planned, may_be_of content same read given, loaded)

  -- if nothing was read at first, and then the first files were
  pub of_read : (Is : Content → Type 0) (failed since : List (List ℕ)) → began ≡ folder → old ≡ []
      → SomeWereRead (opened began ∷ old) (opened then ∷ new) → ∥ All (MayBeRead (gives disk then state)) new ∥₁
      → ∥ All (MayFail (gives disk then state)) since ∥₁ → since ≡ failed
      → ((content : Content) (ts : List Table) → AreRead content ts (opened began ∷ old) (opened then ∷ new) → Is content)
      → HoldsOfRead gives folder failed Is
  of_read Is failed since same none (count, content, read) given unread names holds =
      let ts = take count all_tables in
      let at : then ≡ began = same_folder content ts began then old new read in
      let grown : new ≡ old ++ map (read_of content) ts = cc in record {
        disk = disk;
        state = state;
        reads = new;
        first = (count, content, subst (λ (before : List FileRead). new ≡ before ++ map (read_of content) ts) none grown);
        given = subst (λ (path : List ℕ). ∥ All (MayBeRead (gives disk path state)) new ∥₁) (at ∙ same) given;
        unread = subst (λ (path : List ℕ). ∥ All (MayFail (gives disk path state)) failed ∥₁) (at ∙ same)
            (subst (λ (names : List (List ℕ)). ∥ All (MayFail (gives disk then state)) names ∥₁) names unread);
        holds = λ content ts read. holds content ts (read_since content ts at none read);
      }

  -- why a feed isn't built, if nothing was read at first
  pub build_refused : {T : Type 0} (known : Holds) (zone_file : List ℕ → Option (List ℕ) → Type 0) (may_show : Option ℤ → Type 0)
      (result : Result T BuildFailure) (asked : PlanText) (plan : Plan) (names since : List (List ℕ)) → began ≡ folder → old ≡ [] → names ≡ []
      → IsPlanAskedBy zone_file may_show asked plan
      → ∥ All (MayBeRead (gives disk then state)) new ∥₁ → ∥ All (MayFail (gives disk then state)) since ∥₁
      → IfErr result (λ failure. IfRefused failure (λ fault. SomeWereRead (opened began ∷ old) (opened then ∷ new)
      × (since ≡ failed_as names fault) × ((content : Content)
      → Tells known content ⊎ ((ts : List Table) × AreRead content ts (opened began ∷ old) (opened then ∷ new)) → IsLoadRefusal content plan fault)))
      → IfErr result (λ failure. IfRefused failure (IsBuildRefusal gives folder zone_file may_show asked))
  build_refused known zone_file may_show (Ok built) asked plan names since same none whole planned given unread is = tt
  build_refused known zone_file may_show (Err failure) asked plan names since same none whole planned given unread is =
      refused_weaker failure _ _ (λ fault read. inr (
        plan,
        planned,
        of_read (λ content. IsLoadRefusal content plan fault) (failed_as [] fault) since same none read.0 given unread
            (read.1 ∙ ap (λ (before : List (List ℕ)). failed_as before fault) whole) (λ content ts agrees. read.2 content (inr (ts, agrees))),
      )) is

  -- the outcome of reading the tables
  pub tables_known : (result : Result Tables ReadFault) → began ≡ folder
      → OnOk result (AllWereRead (opened began ∷ old) (opened then ∷ new)) → ∥ All (MayBeRead (gives disk then state)) new ∥₁
      → ((content : Content) (ts : List Table) → AreRead content ts (opened began ∷ old) (opened then ∷ new)
      → IfOk result (HoldsTables content))
      → IfOk result (AreTablesOf gives folder)
  tables_known (Ok t) same (content, read) given held = (content, may_be_of content same read given, held content all_tables read)
  tables_known (Err fault) same read given held = tt

  module _ (result : Result Tables ReadFault) (names since : List (List ℕ)) (same : began ≡ folder) (none : old ≡ []) (whole : names ≡ [])
      (first : SomeWereRead (opened began ∷ old) (opened then ∷ new)) (given : ∥ All (MayBeRead (gives disk then state)) new ∥₁)
      (unread : ∥ All (MayFail (gives disk then state)) since ∥₁) (failed : since ≡ failed_by names result) where
    pub held_known : ((content : Content) (ts : List Table) → AreRead content ts (opened began ∷ old) (opened then ∷ new)
        → IfOk result (HoldsTables content))
        → IfOk result (λ t. HoldsOfRead gives folder [] (λ content. HoldsTables content t))
    held_known held = known result failed held
      where
        known : (r : Result Tables ReadFault) → since ≡ failed_by names r
            → ((content : Content) (ts : List Table) → AreRead content ts (opened began ∷ old) (opened then ∷ new) → IfOk r (HoldsTables content))
            → IfOk r (λ t. HoldsOfRead gives folder [] (λ content. HoldsTables content t))
        known (Ok t) are held = of_read (λ content. HoldsTables content t) [] since same none first given unread (are ∙ whole) held
        known (Err fault) are held = tt

    pub refused_known : ((content : Content) (ts : List Table) → AreRead content ts (opened began ∷ old) (opened then ∷ new)
        → IfErr result (NoTables content))
        → IfErr result (λ fault. HoldsOfRead gives folder (failed_as [] (load_fault_of_read fault)) (λ content. NoTables content fault))
    refused_known refused = known result failed refused
      where
        known : (r : Result Tables ReadFault) → since ≡ failed_by names r
            → ((content : Content) (ts : List Table) → AreRead content ts (opened began ∷ old) (opened then ∷ new) → IfErr r (NoTables content))
            → IfErr r (λ fault. HoldsOfRead gives folder (failed_as [] (load_fault_of_read fault)) (λ content. NoTables content fault))
        known (Ok t) are refused = tt
        known (Err fault) are refused =
            of_read (λ content. NoTables content fault) (failed_as [] (load_fault_of_read fault)) since same none first given unread
            (are ∙ as_read names fault ∙ ap (λ (before : List (List ℕ)). failed_as before (load_fault_of_read fault)) whole) refused

-- if all files were read by some moment, and none was read after it
pub whole_of : {X : Type 0} (reads : X → List FileRead) (old : List FileRead) (then files : X)
    (IsIt : Content → Type 0) → files ≡ then → AllWereRead old (reads then)
    → ((content : Content) → AreRead content all_tables old (reads then) → IsIt content)
    → (content : Content) × AreRead content all_tables old (reads files) × IsIt content
whole_of reads old then files IsIt same (content, read) made =
    (content, subst (λ at. AreRead content all_tables old (reads at)) (sym same) read, made content read)
