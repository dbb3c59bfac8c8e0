use Rattle.std.proofs.Common.{◌≡◌, ◌+◌, ◌-◌, ◌<◌, ◌∷◌, [], ◌++◌, ℕ, List, length, arith, refl, sym, ◌∙◌, ap, subst}
use Rattle.reasoning.proofs.OptionLemmas.{on_err}
use Rattle.timetable.specs.TimetableValue.{TimetableValue}
use Rattle.scan_state.specs.SetQuery.{asked_from, question}
use Rattle.scan_state.specs.Matching.{from_to, MatchesFrom}
use Rattle.scan_state.specs.Steps.{IsStep}
use Rattle.scan_state.specs.SetQuery.{CanScan}
use Rattle.scan_state.specs.ScanRecords.{spelling_of}
use Rattle.profile_scan.specs.Scans.{IsScan}
use Rattle.profile_scan.specs.Scans.{HasFound, scan_value_of, scan_records_of}
use Rattle.scan_state.specs.Hops.{IsAsked, StandsAt}
use Rattle.profile_scan.specs.Window.{falling}
use Rattle.profile_scan.specs.declared.scan.State.{State}
use Rattle.scan_state.proofs.BoundLemmas.{no_bounds}
use Rattle.profile_scan.proofs.Ends.{nothing_follows}
use Rattle.profile_scan.proofs.StepLemmas.{one_index_down}
use Rattle.profile_scan.proofs.StepFacts.{matches_alike}
use Rattle.profile_scan.proofs.LogLemmas.{log_more, log_front, log_none}
use Rattle.profile_scan.proofs.scan.scan_window.Goals as goal

pub loop-place-init : goal.loop-place-init
loop-place-init g c =
    let rules = g.C.Criterion.rules c.args.asked.now.criterion in
    let t = g.S.ConnSource.timetable c.args.source.now in
    let value = g.K.Keeping.value in
    let kept = g.O.AtSource.kept in
    let keeping = c.in_ok-keeping.keeping in
    let origin = c.in_ok-origin.origin in
    let made = c.in_ok-keeping.ensures in
    let criterion = c.args.asked.now.criterion in
    let counted = subst (λ (n : ℕ). g.K.Keeping.IsUnder criterion c.stops-stops.result n [] keeping) c.trips.ensures made.under in
    let state : State g.row.K.Denot g.row.O.Denot = record { keeping = keeping; origin = origin } in
    record {
      low = c.requires.order;
      high = omega arith;
      timetable = refl;
      log = log_none (g.S.ConnSource.log c.args.source.now) c.args.window.end;
      scan = record {
        keeping = subst (λ (values : List g.row.C-V.Denot). g.K.Keeping.IsUnder criterion t.stops t.trips values keeping)
            (sym c.new-3.ensures) (subst (λ (n : ℕ). g.K.Keeping.IsUnder criterion n t.trips [] keeping) c.stops-stops.ensures counted);
        source = subst (λ (n : ℕ). g.O.AtSource.IsUnder criterion n origin) c.stops-stops.ensures c.in_ok-origin.ensures.under;
        bound = λ index. no_bounds rules t (kept state.origin index).found c.args.window.end c.new-3.result.values.items c.new-3.ensures;
      };
      matched = λ index.
          let q = asked_from g.O.AtSource.sources (question c.args.asked.now.query) index in
          let can : CanScan (g.S.ConnSource.timetable c.args.source.now)
          (asked_from g.O.AtSource.sources (question c.args.asked.now.query) index) = record {
            legal = g.met.S.ConnSource.legal c.args.source.now;
            limits = g.met.S.ConnSource.limits c.args.source.now;
            in_time = c.requires.can_ask.by;
          } in
          let spelled = spelling_of t.footpaths (scan_records_of value kept state index) in
          matches_alike rules t q spelled c.args.window.end (record { bag = λ _. []; labels = λ _. []; found = [] })
          (scan_value_of value kept state index) made.bags made.labels (c.in_ok-origin.ensures.none index)
          (nothing_follows rules t q can c.args.window.end c.requires.past spelled);
    }

pub loop-place-preserved : goal.loop-place-preserved
loop-place-preserved g c =
    let inv = c.loop-place.invariant in
    let low = inv.low in
    let high = inv.high in
    let test = c.loop-place-test.true in
    let i = c.loop-place.place - 1 in
    let rules = g.C.Criterion.rules c.args.asked.now.criterion in
    let t = g.S.ConnSource.timetable c.args.source.now in
    let same = c.connection-connection.ensures.same ∙ inv.timetable in
    let in_range = c.requires.past.in_range in
    let in_i : c.loop-place.place - 1 < length (g.S.ConnSource.timetable c.args.source.now).connections = omega arith in
    let up : c.loop-place.place ≡ c.loop-place.place - 1 + 1 = omega arith in
    let value = g.K.Keeping.value in
    let kept = g.O.AtSource.kept in
    let old = c.loop-place.scan.state in
    let new = c.step.new.self.state in
    record {
      low = omega arith;
      high = omega arith;
      timetable = same;
      log = c.connection-connection.ensures.log ∙ ap (λ ks. ks ++ i ∷ []) inv.log
          ∙ log_more (g.S.ConnSource.log c.args.source.now) i c.loop-place.place c.args.window.end (omega arith) high;
      scan = subst (λ (x : TimetableValue). IsScan g.C.Criterion.rules g.K.Keeping.IsUnder g.O.AtSource.IsUnder g.O.AtSource.kept c.args.asked.now.criterion x i
          c.step.new.self) same c.in_ok-step.ensures.scan;
      matched = λ index.
          let q = asked_from g.O.AtSource.sources (question c.args.asked.now.query) index in
          let can : CanScan (g.S.ConnSource.timetable c.args.source.now)
          (asked_from g.O.AtSource.sources (question c.args.asked.now.query) index) = record {
            legal = g.met.S.ConnSource.legal c.args.source.now;
            limits = g.met.S.ConnSource.limits c.args.source.now;
            in_time = c.requires.can_ask.by;
          } in
          let tags = from_to (spelling_of t.footpaths (scan_records_of value kept old index))
          (spelling_of t.footpaths (scan_records_of value kept new index)) in
          one_index_down rules (g.met.C.Criterion.laws c.args.asked.now.criterion) t q can tags i in_i
          (scan_value_of value kept old index) (scan_value_of value kept new index)
          (subst (λ (n : ℕ). MatchesFrom rules t q (spelling_of t.footpaths (scan_records_of value kept old index)) n (scan_value_of value kept old index)) up
          (inv.matched index))
          (subst (λ (x : TimetableValue). IsStep rules x q
          (from_to (spelling_of x.footpaths (scan_records_of value kept old index)) (spelling_of x.footpaths (scan_records_of value kept new index))) i
          (scan_value_of value kept old index) (scan_value_of value kept new index)) same (c.in_ok-step.ensures.step index));
    }

pub step-requires : goal.step-requires
step-requires g c =
    let inv = c.loop-place.invariant in
    let same = c.connection-connection.ensures.same ∙ inv.timetable in
    let low = inv.low in
    let high = inv.high in
    let test = c.loop-place-test.true in
    let up : c.loop-place.place ≡ c.loop-place.place - 1 + 1 = omega arith in
    let i = c.loop-place.place - 1 in
    let in_range = c.requires.past.in_range in
    let in_i : c.loop-place.place - 1 < length (g.S.ConnSource.timetable c.args.source.now).connections = omega arith in
    let was : StandsAt (g.S.ConnSource.timetable c.loop-place.source) i c.connection-connection.result = record {
      in_range = subst (λ (x : TimetableValue). i < length x.connections) (sym inv.timetable) in_i;
      is = c.connection-connection.ensures.connection;
    } in
    record {
      asked = subst (λ (x : TimetableValue). IsAsked x c.args.asked.now) (sym same) c.requires.can_ask;
      stands = subst (λ (x : TimetableValue). StandsAt x i c.connection-connection.result) (sym c.connection-connection.ensures.same) was;
      scan =
          subst (λ (x : TimetableValue). IsScan g.C.Criterion.rules g.K.Keeping.IsUnder g.O.AtSource.IsUnder g.O.AtSource.kept c.args.asked.now.criterion x
          (c.loop-place.place - 1 + 1) c.loop-place.scan) (sym same)
          (subst (λ (n : ℕ). IsScan g.C.Criterion.rules g.K.Keeping.IsUnder g.O.AtSource.IsUnder g.O.AtSource.kept c.args.asked.now.criterion
          (g.S.ConnSource.timetable c.args.source.now) n c.loop-place.scan) up inv.scan);
    }

pub returns-in_err-step-clause-err : goal.returns-in_err-step-clause-err
returns-in_err-step-clause-err g c =
    let inv = c.loop-place.invariant in
    let low = inv.low in
    let high = inv.high in
    let test = c.loop-place-test.true in
    let i = c.loop-place.place - 1 in
    let log : g.S.ConnSource.log c.connection-connection.new.self ≡ g.S.ConnSource.log c.args.source.now
    ++ falling i (c.args.window.end - i) =
    c.connection-connection.ensures.log ∙ ap (λ ks. ks ++ i ∷ []) inv.log
    ∙ log_more (g.S.ConnSource.log c.args.source.now) i c.loop-place.place c.args.window.end (omega arith) high in
    on_err c.from_residual-in_err-step.result _ (
      c.args.window.end - i,
      log ∙ log_front (g.S.ConnSource.log c.args.source.now) c.args.window.start i c.args.window.end (omega arith)
          (omega arith),
    )

pub returns-clause-scanned : goal.returns-clause-scanned
returns-clause-scanned g c =
    let inv = c.loop-place.invariant in
    let low = inv.low in
    let test = c.loop-place-test.false in
    let at : c.loop-place.place ≡ c.args.window.start = omega arith in
    let state = c.loop-place.scan.state in
    record {
      under = inv.scan.source;
      found = λ index.
          subst (λ (n : ℕ). HasFound (g.C.Criterion.rules c.args.asked.now.criterion) (g.S.ConnSource.timetable c.args.source.now)
          (asked_from g.O.AtSource.sources (question c.args.asked.now.query) index) n (scan_records_of g.K.Keeping.value g.O.AtSource.kept state index)
          (g.O.AtSource.kept state.origin index).found) at (inv.matched index).at_source;
    }

-- an index of a connection
pub overflow_cast-place : goal.overflow_cast-place
overflow_cast-place g c =
    let test = c.loop-place-test.true in
    let high = c.loop-place.invariant.high in
    let in_range = c.requires.past.in_range in
    let limit = (g.met.S.ConnSource.limits c.args.source.now).connections in
    omega (arith, test, high, in_range, limit)
