use Rattle.std.proofs.Common.{sym, ◌∙◌, ap, subst, reverse, take, ◌++◌}
use Rattle.reasoning.proofs.OptionLemmas.{on_err}
use Rattle.scan_state.specs.SetQuery.{SetQueryValue, IsAskableBetween}
use Rattle.profile_scan.specs.Window.{window_of}
use Rattle.profile_scan.proofs.EverywhereLemmas.{all_to_one, asked_to_one}
use Rattle.profile_scan.proofs.profiles.profiles_to.Goals as goal

pub profiles_to_any-requires : goal.profiles_to_any-requires
profiles_to_any-requires g c =
    let stops = (g.S.ConnSource.timetable c.args.source.now).stops in
    subst (IsAskableBetween stops) (sym c.in_ok-destinations.ensures) (asked_to_one stops c.args.destination.now c.requires)

pub returns-clause-answers : goal.returns-clause-answers
returns-clause-answers g c =
    all_to_one g.C.Criterion.rules g.C.Kept.Keeping.value (g.S.ConnSource.timetable c.args.source.now)
    (record { destination = c.args.destination.now; to_any = c.in_ok-to_any.to_any })
    (c.in_ok-to_any.ensures.keeps.1 ∙ c.in_ok-destinations.ensures)
    c.in_ok-to_any.ensures.answers c.requires.target

-- the window is the query's
pub returns-clause-log : goal.returns-clause-log
returns-clause-log g c =
    let t = g.S.ConnSource.timetable c.args.source.now in
    let same = ap (λ (b : SetQueryValue). reverse (window_of t b.from b.by)) c.in_ok-destinations.ensures in
    c.in_ok-to_any.ensures.log ∙ ap (λ (ks : _). g.S.ConnSource.log c.args.source.now ++ ks) same

pub returns-in_err-to_any-clause-err : goal.returns-in_err-to_any-clause-err
returns-in_err-to_any-clause-err g c =
    let t = g.S.ConnSource.timetable c.args.source.now in
    let same = ap (λ (b : SetQueryValue). reverse (window_of t b.from b.by)) c.in_ok-destinations.ensures in
    let read = c.in_err-to_any.ensures.err in
    on_err c.from_residual-in_err-to_any.result _ (read.0, read.1 ∙ ap (λ (ks : _). g.S.ConnSource.log c.args.source.now ++ take read.0 ks) same)
