use Rattle.std.proofs.Common.{◌≡◌, ◌<◌, ◌++◌, ℕ, List, Contains, IfOk, length, reverse, sym, ◌∙◌, ap, subst}
use Rattle.bags.specs.Bag.{criterion_of, points_of}
use Rattle.bags.specs.declared.point.Point.{Point}
use Rattle.timetable.specs.TimetableValue.{TimetableValue}
use Rattle.sources.specs.FirstAt.{IsFirstAt}
use Rattle.scan_state.specs.SetQuery.{IsAskableBetween, IsDirectWalk, SetQueryValue, question}
use Rattle.profile_scan.specs.Answered.{IsTaggedAnswer}
use Rattle.profile_scan.specs.Found.{AnswersBetween}
use Rattle.scan_state.specs.Nearest.{IsShortestWalk}
use Rattle.scan_state.specs.SetQuery.{CanScan}
use Rattle.profile_scan.specs.Window.{window_of}
use Rattle.scan_state.specs.ScanRecords.{spelling_of}
use Rattle.scan_state.specs.ScanState.{AreFinalWalks, final_walks_of}
use Rattle.profile_scan.specs.Scans.{HasFound, scan_records_of}
use Rattle.scan_state.specs.Origins.{kept_of}
use Rattle.profile_scan.proofs.AnsweredLemmas.{answered_from}
use Rattle.scan_state.proofs.FinalWalkLemmas.{direct_is}
use Rattle.scan_state.proofs.Offers.{bag_under}
use Rattle.scan_state.proofs.PartLemmas.{firsts_rise}
use Rattle.profile_scan.proofs.LogLemmas.{on_ok, part_read, whole_read, window_read}
use Rattle.profile_scan.proofs.answering.profile_between.Given as given
use Rattle.profile_scan.proofs.answering.profile_between.Goals.{In_ok-scan}
use Rattle.profile_scan.proofs.answering.profile_between.Goals as goal

-- the log behind the scan
logged : (g : given.Over) (c : goal.In_ok-scan g) → g.S.ConnSource.log c.scan_window.new.source ≡ g.S.ConnSource.log c.args.source.now
    ++ reverse (window_of (g.S.ConnSource.timetable c.args.source.now) c.args.query.now.from c.args.query.now.by)
logged g c = window_read (g.S.ConnSource.timetable c.args.source.now) c.args.query.now.from c.args.query.now.by
    c.first_at-start.result c.first_at-end.result c.first_at-start.ensures c.first_at-end.ensures
    (g.S.ConnSource.log c.args.source.now) (g.S.ConnSource.log c.scan_window.new.source) c.in_ok-scan.ensures.log

pub returns-in_err-scan-clause-err : goal.returns-in_err-scan-clause-err
returns-in_err-scan-clause-err g c = part_read (g.S.ConnSource.timetable c.args.source.now) c.args.query.now.from c.args.query.now.by
    c.first_at-start.result c.first_at-end.result c.first_at-start.ensures c.first_at-end.ensures c.from_residual-in_err-scan.result
    (g.S.ConnSource.log c.args.source.now) (g.S.ConnSource.log c.scan_window.new.source) c.in_err-scan.ensures.err

pub returns-in_err-points-clause-err : goal.returns-in_err-points-clause-err
returns-in_err-points-clause-err g c =
    whole_read c.from_residual-in_err-points.result _ _ _ (logged g (goal.at.returns-in_err-points-clause-err g c).In_ok-scan)

pub returns-clause-log : goal.returns-clause-log
returns-clause-log g c = on_ok c.found_in_nodes.result _ (logged g (goal.at.returns-clause-log g c).In_ok-scan)

pub returns-clause-err : goal.returns-clause-err
returns-clause-err g c = whole_read c.found_in_nodes.result _ _ _ (logged g (goal.at.returns-clause-err g c).In_ok-scan)

-- what was found, of the criterion and the query that were asked
found_is : (g : given.Over) (c : goal.In_ok-scan g) → HasFound (g.C.Criterion.rules c.args.criterion.now) (g.S.ConnSource.timetable c.args.source.now)
    (question c.args.query.now) c.first_at-start.result (scan_records_of g.C.Kept.Keeping.value (λ origin index. kept_of origin) c.in_ok-scan.scan.state 0)
    (points_of c.in_ok-scan.scan.state.origin.found)
found_is g c =
    let t = g.S.ConnSource.timetable c.args.source.now in
    let keeps = c.in_ok-asked.ensures.keeps in
    let state = c.in_ok-scan.scan.state in
    let told = scan_records_of g.C.Kept.Keeping.value (λ origin index. kept_of origin) state 0 in
    let found = points_of state.origin.found in
    subst (λ criterion. HasFound (g.C.Criterion.rules criterion) t (question c.args.query.now) c.first_at-start.result told found) keeps.0
    (subst (λ (b : SetQueryValue). HasFound (g.C.Criterion.rules c.in_ok-asked.asked.criterion) t b c.first_at-start.result told found)
    (keeps.1 ∙ c.in_ok-own.ensures)
    (c.in_ok-scan.ensures.scanned.found 0))

under : (g : given.Over) (c : goal.In_ok-scan g) → criterion_of c.in_ok-scan.scan.state.origin.found ≡ c.args.criterion.now
under g c = c.in_ok-scan.ensures.scanned.under ∙ c.in_ok-asked.ensures.keeps.0

pub in_order-requires : goal.in_order-requires
in_order-requires g c = under g (goal.at.in_order-requires g c).In_ok-scan

-- the ways from the sources
ways_are : (g : given.Over) (c : goal.In_ok-scan g) → AreFinalWalks (g.S.ConnSource.timetable c.args.source.now) (question c.args.query.now).targets
    (final_walks_of c.in_ok-asked.asked.final_walks)
ways_are g c = subst (λ (b : SetQueryValue). AreFinalWalks (g.S.ConnSource.timetable c.args.source.now) b.targets
    (final_walks_of c.in_ok-asked.asked.final_walks))
    (c.in_ok-asked.ensures.keeps.1 ∙ c.in_ok-own.ensures) c.in_ok-asked.ensures.asked.final_walks

pub direct_walk-walk-requires : goal.direct_walk-walk-requires
direct_walk-walk-requires g c stop is =
    let sources = c.args.query.now.sources.items in
    let named : Contains c.args.query.now.sources.items stop = subst (λ (xs : List ℕ). Contains xs stop) c.deref.ensures.value is in
    subst (λ (n : ℕ). stop < n) (sym (ways_are g (goal.at.direct_walk-walk-requires g c).In_ok-scan).long) (c.requires.sources stop named)

pub found_in_nodes-requires-clause-tagged : goal.found_in_nodes-requires-clause-tagged
found_in_nodes-requires-clause-tagged g c =
    let rules = g.C.Criterion.rules c.args.criterion.now in
    let t = g.S.ConnSource.timetable c.args.source.now in
    let q = question c.args.query.now in
    let can : CanScan (g.S.ConnSource.timetable c.args.source.now) (question c.args.query.now) = record {
      legal = g.met.S.ConnSource.legal c.args.source.now;
      limits = g.met.S.ConnSource.limits c.args.source.now;
      in_time = c.requires.small.2;
    } in
    let state = c.in_ok-scan.scan.state in
    let told = scan_records_of g.C.Kept.Keeping.value (λ origin index. kept_of origin) state 0 in
    let found = points_of state.origin.found in
    let points = c.in_ok-points.points.items in
    let at = (goal.at.found_in_nodes-requires-clause-tagged g c).In_ok-scan in
    let bag = bag_under g.C.Criterion.rules state.origin.found.criterion c.args.criterion.now found (under g at) state.origin.found.kept in
    subst (λ (ps : List (Point g.row.C-V.Denot)). IsTaggedAnswer rules (g.S.ConnSource.timetable c.scan_window.new.source) q
    (spelling_of (g.S.ConnSource.timetable c.scan_window.new.source).footpaths told).journey ps) (sym c.deref-2.ensures.value)
    (subst (λ (x : TimetableValue). IsTaggedAnswer rules x q (spelling_of x.footpaths told).journey points) (sym c.in_ok-scan.ensures.timetable)
    (answered_from rules (g.met.C.Criterion.laws c.args.criterion.now) t q can c.first_at-start.result c.first_at-start.ensures told found points
    (found_is g at) bag c.in_ok-points.ensures))

pub found_in_nodes-requires-clause-direct : goal.found_in_nodes-requires-clause-direct
found_in_nodes-requires-clause-direct g c =
    let q = question c.args.query.now in
    let final_walks = final_walks_of c.in_ok-asked.asked.final_walks in
    let shortest = subst (λ (xs : List ℕ). IsShortestWalk final_walks xs (length xs) c.direct_walk-walk.result) c.deref.ensures.value
    c.direct_walk-walk.ensures in
    subst (λ (x : TimetableValue). IsDirectWalk x q c.direct_walk-walk.result) (sym c.in_ok-scan.ensures.timetable)
    (direct_is (g.S.ConnSource.timetable c.args.source.now) q final_walks (ways_are g (goal.at.found_in_nodes-requires-clause-direct g c).In_ok-scan)
    c.requires.sources c.requires.differ c.direct_walk-walk.result shortest)

pub returns-clause-answers : goal.returns-clause-answers
returns-clause-answers g c = subst (λ (x : TimetableValue). IfOk c.found_in_nodes.result
    (AnswersBetween c.args.criterion.now (g.C.Criterion.rules c.args.criterion.now) x (question c.args.query.now))) c.in_ok-scan.ensures.timetable
    c.found_in_nodes.ensures

pub ask-requires : goal.ask-requires
ask-requires g c = subst (IsAskableBetween (g.S.ConnSource.timetable c.args.source.now).stops) (sym c.in_ok-own.ensures) c.requires

pub scan_window-requires : goal.scan_window-requires
scan_window-requires g c =
    let t = g.S.ConnSource.timetable c.args.source.now in
    let q = c.args.query.now in
    let same_by = ap (λ (b : SetQueryValue). b.by) (c.in_ok-asked.ensures.keeps.1 ∙ c.in_ok-own.ensures) in
    record {
      can_ask = c.in_ok-asked.ensures.asked;
      order = firsts_rise t q.from q.by c.first_at-start.result c.first_at-end.result c.requires.in_time c.first_at-start.ensures c.first_at-end.ensures;
      past = subst (λ (n : ℕ). IsFirstAt t n c.first_at-end.result) (sym same_by) c.first_at-end.ensures;
    }
