use Rattle.std.proofs.Common.{◌≡◌, ◌≤◌, ◌∙◌, sym, ap, subst, ℕ, List, length, map}
use Rattle.gtfs_tables.specs.declared.tables.Trip.{Trip}
use Rattle.timetable.specs.declared.limits.TheConstants.{MAX_TRIPS}
use Rattle.connections.specs.Active.{AreActive}
use Rattle.connections.specs.Keeping.{HoldStarts}
use Rattle.connections.specs.Runs.{runs_of_days}
use Rattle.connections.specs.declared.days.ServiceDay.{ServiceDay}
use Rattle.connections.specs.declared.runs.Run.{Run}
use Rattle.connections.proofs.KeepSteps.{hold_kept}
use Rattle.connections.proofs.runs.runs_by.Goals.{In-Ok-list_runs}
use Rattle.connections.proofs.runs.runs_by.Goals as goal

made : (c : goal.In-Ok-list_runs) → c.in-Ok-list_runs.runs.items ≡ runs_of_days c.args.feed.now (map (λ (d : ServiceDay). d.day) c.args.days.now)
made c =
    let feed = c.args.feed.now in
    let after = c.count_runs.new.starts.items in
    let kept : HoldStarts feed.frequencies.items (length feed.trips.items) after =
    hold_kept feed.frequencies.items (length feed.trips.items) c.args.starts.now.items after c.requires.starts c.in-Ok.ensures.kept in
    c.in-Ok-list_runs.ensures feed (sym c.deref-2.ensures.value)
    (subst (λ (ts : List Trip). HoldStarts feed.frequencies.items (length ts) after) (sym c.deref-2.ensures.value) kept)
    (subst (λ (ts : List Trip). AreActive feed (map (λ (d : ServiceDay). d.day) c.args.days.now) ts c.args.services.now) (sym c.deref-2.ensures.value)
    c.requires.active)

pub returns-in-Ok-list_runs-clause-ok : goal.returns-in-Ok-list_runs-clause-ok
returns-in-Ok-list_runs-clause-ok c = made (goal.at.returns-in-Ok-list_runs-clause-ok c).In-Ok-list_runs

pub returns-in-Ok-list_runs-clause-few : goal.returns-in-Ok-list_runs-clause-few
returns-in-Ok-list_runs-clause-few c =
    let feed = c.args.feed.now in
    let held : HoldStarts feed.frequencies.items (length c.deref.result.now) c.args.starts.now.items =
    subst (λ (ts : List Trip). HoldStarts feed.frequencies.items (length ts) c.args.starts.now.items) (sym c.deref.ensures.value) c.requires.starts in
    let active : AreActive feed (map (λ (d : ServiceDay). d.day) c.args.days.now) c.deref.result.now c.args.services.now =
    subst (λ (ts : List Trip). AreActive feed (map (λ (d : ServiceDay). d.day) c.args.days.now) ts c.args.services.now) (sym c.deref.ensures.value)
    c.requires.active in
    let counted = (c.in-Ok.ensures.count feed (map (λ (d : ServiceDay). d.day) c.args.days.now)
    (sym c.deref.ensures.value) held active).exact c.if-count.false in
    let listed = ap (λ (runs : List Run). length runs) (made (goal.at.returns-in-Ok-list_runs-clause-few c).In-Ok-list_runs) in
    subst (λ (n : ℕ). n ≤ MAX_TRIPS) (counted ∙ sym listed) c.if-count.false
