-- The bytes of a zone's file, and why there is no zone.
use Rattle.std.specs.Prelude.{◌≡◌, ◌≢◌, ℕ, ℤ, List, [], Option}
use Rattle.std.specs.declared.io.ErrorKind.{ErrorKind}
use Rattle.std.specs.declared.io.ErrorKind.TheVariants.{OutOfMemory as WasOutOfMemory}
use Rattle.command_requests.specs.declared.plans.PlanText.{PlanText}
use Rattle.command_requests.specs.declared.plans.ZoneText.{ZoneText}
use Rattle.command_requests.specs.declared.plans.ZoneText.TheVariants.{Fixed, Posix, File}
use Rattle.feed_loader.specs.declared.fault.LoadFault.{LoadFault}
use Rattle.feed_loader.specs.declared.fault.LoadFault.TheVariants.{Day}
use Rattle.feed_loader.specs.declared.plan.Plan.{Plan}
use Rattle.image_files.specs.Texts.{IsTextAt}
use Rattle.feed_plans.specs.Planning.{IsPlanBy, IsZoneFault}
use Rattle.service_days.specs.declared.fault.DayFault.{DayFault}
use Rattle.feed_plans.specs.declared.zones.PlanFailure.{PlanFailure}
use Rattle.feed_plans.specs.declared.zones.PlanFailure.TheVariants.{Refused, Unreadable, OutOfMemory}

-- why a file at a path isn't read, by the kind of the error: it can't be read, or there is no memory for its bytes
abbrev pub IsUnread : ErrorKind → List ℕ → PlanFailure → Type 0
IsUnread kind path (Refused fault) = ⊥
IsUnread kind path (Unreadable unread) = (kind ≢ WasOutOfMemory) × (unread.now ≡ path)
IsUnread kind path OutOfMemory = kind ≡ WasOutOfMemory

-- why the bytes of the zone's file aren't read: what is at its path may not be opened or read, or there is no memory for them. There is no such failure if the
-- zone isn't a file
abbrev pub IsZoneUnread : (List ℕ → Type 0) → ZoneText → PlanFailure → Type 0
IsZoneUnread may_fail (File path) (Unreadable unread) = (unread.now ≡ path.now) × may_fail path.now
IsZoneUnread may_fail (File path) OutOfMemory = Unit {0}
IsZoneUnread may_fail _ _ = ⊥

-- the zone is that of a file, which may not be opened or read
abbrev pub IsZoneUnreadable : (List ℕ → Type 0) → ZoneText → Type 0
IsZoneUnreadable may_fail (File path) = may_fail path.now
IsZoneUnreadable may_fail _ = ⊥

-- `may_hold` says what a file at a path may hold
module _ (may_hold : List ℕ → Option (List ℕ) → Type 0) where
  -- the bytes are those of the zone's file; there are none if the zone isn't a file
  abbrev pub AreZoneBytes : ZoneText → List ℕ → Type 0
  AreZoneBytes (Fixed ahead) bytes = bytes ≡ []
  AreZoneBytes (Posix rule) bytes = bytes ≡ []
  AreZoneBytes (File path) bytes = IsTextAt may_hold path.now bytes

  -- the plan that is asked for, made at what the clock may show when it is read, with the bytes of the zone's file
  abbrev pub IsPlanAskedBy : (Option ℤ → Type 0) → PlanText → Plan → Type 0
  IsPlanAskedBy may_show asked plan = (bytes : List ℕ) × AreZoneBytes asked.zone bytes × IsPlanBy may_show asked bytes plan

  -- the fault is that of the zone that was asked for, with the bytes of its file
  abbrev pub IsNoZoneOf : PlanText → LoadFault → Type 0
  IsNoZoneOf asked fault =
      (bytes : List ℕ) × AreZoneBytes asked.zone bytes × (wrong : DayFault) × (fault ≡ Day wrong) × IsZoneFault asked.zone bytes wrong

  -- a plan is refused only for its zone; otherwise it fails only because the bytes of the zone's file can't be read, or there is no memory for them
  abbrev pub IsNoPlan : (List ℕ → Type 0) → PlanText → PlanFailure → Type 0
  IsNoPlan may_fail asked (Refused fault) = IsNoZoneOf asked fault
  IsNoPlan may_fail asked (Unreadable path) = IsZoneUnread may_fail asked.zone (Unreadable path)
  IsNoPlan may_fail asked OutOfMemory = IsZoneUnread may_fail asked.zone OutOfMemory
