use Rattle.std.proofs.Common.{◌≡◌, ◌++◌, ℕ, None, get_or, reverse, slice_get, sym, ◌∙◌, ap, subst}
use Rattle.sources.specs.FirstAt.{IsFirstAt}
use Rattle.scan_state.specs.SetQuery.{IsAskableBetween, SetQueryValue, question}
use Rattle.scan_state.specs.SetQuery.{CanScan}
use Rattle.profile_scan.specs.Window.{window_of}
use Rattle.profile_scan.specs.Scans.{scan_records_of}
use Rattle.scan_state.specs.ScanState.{final_walks_of}
use Rattle.scan_state.specs.Origins.{AreUnder, found_from, from_stop, scan_value_from}
use Rattle.scan_state.specs.Points.{AreInOrder}
use Rattle.profile_scan.specs.Everywhere.{points_in}
use Rattle.profile_scan.proofs.AnsweredLemmas.{answered_from}
use Rattle.scan_state.proofs.PartLemmas.{firsts_rise}
use Rattle.profile_scan.proofs.LogLemmas.{part_read, whole_read, window_read}
use Rattle.scan_state.proofs.FinalWalkLemmas.{nearest_direct, target_loop}
use Rattle.profile_scan.proofs.to_any.profiles_to_any.Given as given
use Rattle.profile_scan.proofs.to_any.profiles_to_any.Goals.{In_ok-scan}
use Rattle.profile_scan.proofs.to_any.profiles_to_any.Goals as goal

pub ask-requires : goal.ask-requires
ask-requires g c = subst (IsAskableBetween (g.S.ConnSource.timetable c.args.source.now).stops) (sym c.in_ok-query.ensures) c.requires

pub scan_window-requires : goal.scan_window-requires
scan_window-requires g c =
    let t = g.S.ConnSource.timetable c.args.source.now in
    let d = c.args.destinations.now in
    let same_by = ap (λ (b : SetQueryValue). b.by) (c.in_ok-asked.ensures.keeps.1 ∙ c.in_ok-query.ensures) in
    record {
      can_ask = c.in_ok-asked.ensures.asked;
      order = firsts_rise t d.from d.by c.first_at-start.result c.first_at-end.result c.requires.in_time c.first_at-start.ensures c.first_at-end.ensures;
      past = subst (λ (n : ℕ). IsFirstAt t n c.first_at-end.result) (sym same_by) c.first_at-end.ensures;
    }

-- the log behind the scan
logged : (g : given.Over) (c : goal.In_ok-scan g) → g.S.ConnSource.log c.scan_window.new.source ≡ g.S.ConnSource.log c.args.source.now
    ++ reverse (window_of (g.S.ConnSource.timetable c.args.source.now) c.args.destinations.now.from c.args.destinations.now.by)
logged g c = window_read (g.S.ConnSource.timetable c.args.source.now) c.args.destinations.now.from c.args.destinations.now.by
    c.first_at-start.result c.first_at-end.result c.first_at-start.ensures c.first_at-end.ensures
    (g.S.ConnSource.log c.args.source.now) (g.S.ConnSource.log c.scan_window.new.source) c.in_ok-scan.ensures.log

pub returns-in_err-scan-clause-err : goal.returns-in_err-scan-clause-err
returns-in_err-scan-clause-err g c = part_read (g.S.ConnSource.timetable c.args.source.now) c.args.destinations.now.from c.args.destinations.now.by
    c.first_at-start.result c.first_at-end.result c.first_at-start.ensures c.first_at-end.ensures c.from_residual-in_err-scan.result
    (g.S.ConnSource.log c.args.source.now) (g.S.ConnSource.log c.scan_window.new.source) c.in_err-scan.ensures.err

pub returns-clause-log : goal.returns-clause-log
returns-clause-log g c = logged g (goal.at.returns-clause-log g c).In_ok-scan

pub returns-in_err-lists-clause-err : goal.returns-in_err-lists-clause-err
returns-in_err-lists-clause-err g c =
    whole_read c.from_residual-in_err-lists.result _ _ _ (logged g (goal.at.returns-in_err-lists-clause-err g c).In_ok-scan)

pub lists_in_order-requires : goal.lists_in_order-requires
lists_in_order-requires g c =
    subst (λ k. AreUnder k c.in_ok-scan.scan.state.origin) c.in_ok-asked.ensures.keeps.0 c.in_ok-scan.ensures.scanned.under.0.under

pub returns-clause-keeps : goal.returns-clause-keeps
returns-clause-keeps g c = (c.in_ok-asked.ensures.keeps.0, c.in_ok-asked.ensures.keeps.1 ∙ c.in_ok-query.ensures)

pub returns-clause-answers : goal.returns-clause-answers
returns-clause-answers g c =
    let criterion = c.in_ok-asked.asked.criterion in
    let same = c.in_ok-asked.ensures.keeps.0 in
    let rules = g.C.Criterion.rules c.in_ok-asked.asked.criterion in
    let laws = g.met.C.Criterion.laws c.in_ok-asked.asked.criterion in
    let t = g.S.ConnSource.timetable c.args.source.now in
    let b = question c.in_ok-asked.asked.query in
    let state = c.in_ok-scan.scan.state in
    let lists = c.in_ok-lists.lists.items in
    let start = c.first_at-start.result in
    let origins = c.in_ok-scan.ensures.scanned.under in
    let asked = c.in_ok-asked.ensures.asked in
    let same_from = ap (λ (x : SetQueryValue). x.from) (c.in_ok-asked.ensures.keeps.1 ∙ c.in_ok-query.ensures) in
    record {
      each = λ stop lt.
          let q = from_stop b stop in
          let can : CanScan t q = record {
            legal = g.met.S.ConnSource.legal c.args.source.now;
            limits = g.met.S.ConnSource.limits c.args.source.now;
            in_time = asked.by;
          } in
          let listed = subst (λ k. AreInOrder (g.C.Criterion.rules k) (found_from state.origin stop) (points_in (slice_get lists stop))) (sym same)
          (c.in_ok-lists.ensures.lists stop) in
          answered_from rules laws t q can start
          (subst (λ (n : ℕ). IsFirstAt t n start) (sym same_from) c.first_at-start.ensures)
          (scan_records_of g.C.Kept.Keeping.value scan_value_from state stop) (found_from state.origin stop)
          (points_in (slice_get lists stop)) (c.in_ok-scan.ensures.scanned.found stop) (origins.1 stop) listed;
      direct = λ stop lt other. nearest_direct t b stop other (get_or (final_walks_of c.in_ok-asked.asked.final_walks) stop None)
          (asked.final_walks.each stop lt);
      loops = λ stop lt is. target_loop t b.targets stop is (get_or (final_walks_of c.in_ok-asked.asked.final_walks) stop None)
          (asked.final_walks.each stop lt);
      long = c.in_ok-lists.ensures.long ∙ origins.0.long;
      origins = origins.0;
      final_walks = asked.final_walks.long;
    }
