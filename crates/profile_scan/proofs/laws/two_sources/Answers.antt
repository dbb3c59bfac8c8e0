use Rattle.std.proofs.Common.{◌++◌, ◌∙◌, reverse, take, ap, subst}
use Rattle.reasoning.proofs.OptionLemmas.{on_err}
use Rattle.timetable.specs.TimetableValue.{TimetableValue}
use Rattle.profile_scan.specs.Found.{listed}
use Rattle.scan_state.specs.SetQuery.{CanScan}
use Rattle.scan_state.specs.Points.{IsAnswer}
use Rattle.profile_scan.specs.Window.{window}
use Rattle.scan_state.specs.SetQuery.{single_set_query}
use Rattle.profile_scan.proofs.Answer.{one_answer}
use Rattle.profile_scan.proofs.Single.{answer_to}
use Rattle.profile_scan.proofs.LogLemmas.{taken_none, whole_read}
use Rattle.profile_scan.proofs.laws.two_sources.Goals as goal

pub returns-clause-same : goal.returns-clause-same
returns-clause-same g c =
    let rules = g.C.Criterion.rules c.args.criterion.now in
    let can : CanScan (g.A.ConnSource.timetable c.args.one.now) (single_set_query c.args.query.now) =
    record {
      legal = g.met.A.ConnSource.legal c.args.one.now;
      limits =
          g.met.A.ConnSource.limits c.args.one.now;
      in_time = c.requires.askable.small.2;
    } in
    let again = subst (λ (t : TimetableValue). IsAnswer rules t c.args.query.now (listed c.in_ok-again.again))
    c.requires.alike c.in_ok-again.ensures.answers.answer in
    let t = g.A.ConnSource.timetable c.args.one.now in
    one_answer rules (g.met.C.Criterion.laws c.args.criterion.now) t
    (single_set_query c.args.query.now) can (listed c.in_ok-found.found) (listed c.in_ok-again.again)
    (answer_to rules t c.args.query.now (listed c.in_ok-found.found) c.in_ok-found.ensures.answers.answer)
    (answer_to rules t c.args.query.now (listed c.in_ok-again.again) again)

-- the first scan was broken off: nothing was asked of the other source
pub returns-in_err-found-clause-err : goal.returns-in_err-found-clause-err
returns-in_err-found-clause-err g c = on_err c.from_residual.result _ c.in_err-found.ensures.err

pub returns-in_err-found-clause-other_err : goal.returns-in_err-found-clause-other_err
returns-in_err-found-clause-other_err g c =
    let read = reverse (window (g.A.ConnSource.timetable c.args.one.now) c.args.query.now) in
    on_err c.from_residual.result _ (0, taken_none (g.B.ConnSource.log c.args.other.now) read)

-- the second was: the first source was asked for all of them
pub returns-in_err-again-clause-err : goal.returns-in_err-again-clause-err
returns-in_err-again-clause-err g c = whole_read c.from_residual-in_err-again.result _ _ _ c.in_ok-found.ensures.log

pub returns-in_err-again-clause-other_err : goal.returns-in_err-again-clause-other_err
returns-in_err-again-clause-other_err g c =
    let was = c.in_err-again.ensures.err in
    on_err c.from_residual-in_err-again.result _ (
      was.0,
      was.1 ∙ ap (λ (t : TimetableValue). g.B.ConnSource.log c.args.other.now ++ take was.0 (reverse (window t c.args.query.now))) c.requires.alike,
    )
