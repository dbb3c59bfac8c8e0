use Rattle.std.proofs.Common.{sym, ◌∙◌, ap, subst, reverse, take, ◌++◌}
use Rattle.reasoning.proofs.OptionLemmas.{on_err}
use Rattle.scan_state.specs.SetQuery.{SetQueryValue, IsAskableBetween}
use Rattle.profile_scan.specs.Found.{AnswersBetween}
use Rattle.profile_scan.specs.Window.{window_of}
use Rattle.profile_scan.proofs.Single.{one_askable}
use Rattle.profile_scan.proofs.answering.profile.Goals as goal

pub profile_between-requires : goal.profile_between-requires
profile_between-requires g c =
    let stops = (g.S.ConnSource.timetable c.args.source.now).stops in
    subst (IsAskableBetween stops) (sym c.in_ok-between.ensures) (one_askable c.args.query.now stops c.requires)

pub of_one-requires : goal.of_one-requires
of_one-requires g c = c.in_ok-found.ensures.answers.keeps.2 ∙ c.in_ok-between.ensures

pub returns-clause-answers : goal.returns-clause-answers
returns-clause-answers g c =
    let t = g.S.ConnSource.timetable c.args.source.now in
    let rules = g.C.Criterion.rules c.args.criterion.now in
    c.of_one.ensures c.args.criterion.now t
    (subst (λ (b : SetQueryValue). AnswersBetween c.args.criterion.now rules t b c.in_ok-found.found) c.in_ok-between.ensures c.in_ok-found.ensures.answers)

-- the window is the query's
pub returns-clause-log : goal.returns-clause-log
returns-clause-log g c =
    let t = g.S.ConnSource.timetable c.args.source.now in
    let same = ap (λ (b : SetQueryValue). reverse (window_of t b.from b.by)) c.in_ok-between.ensures in
    c.in_ok-found.ensures.log ∙ ap (λ (ks : _). g.S.ConnSource.log c.args.source.now ++ ks) same

pub returns-in_err-found-clause-err : goal.returns-in_err-found-clause-err
returns-in_err-found-clause-err g c =
    let t = g.S.ConnSource.timetable c.args.source.now in
    let same = ap (λ (b : SetQueryValue). reverse (window_of t b.from b.by)) c.in_ok-between.ensures in
    let read = c.in_err-found.ensures.err in
    on_err c.from_residual-in_err-found.result _ (read.0, read.1 ∙ ap (λ (ks : _). g.S.ConnSource.log c.args.source.now ++ take read.0 ks) same)
