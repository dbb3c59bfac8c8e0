use Rattle.std.proofs.lemmas.Result.{IfOk-weaker, IfErr-weaker, MatchResult-from_both}
use Rattle.std.specs.Prelude.{Ok, Err}
use Rattle.std.specs.Arc.{arc_value}
use Rattle.epochs.specs.History.{TableValue}
use Rattle.epochs.specs.Locked.{HasHistory, UnderLock, PublishesAt}
use Rattle.epochs.proofs.locked.publish_at.Goals as goal

-- a step between two tables with their histories
under : (before after : TableValue) (step : TableValue → TableValue → Type 0) → HasHistory before → HasHistory after → step before after → UnderLock step
under before after step history history_then is =
    record { before = before; after = after; history_before = history; history_after = history_then; is_step = is }

pub returns-clause-table : goal.returns-clause-table
returns-clause-table c =
    let answer = c.publish-answer in let image = arc_value c.args.image in
    MatchResult-from_both answer.result _ _
    (IfOk-weaker answer.result _ (λ v. UnderLock (λ a b. PublishesAt a image (Ok v) b))
    (λ v h. under _ answer.new.self (λ a b. PublishesAt a image (Ok v) b) c.requires c.history.ensures.history h) answer.ensures.published)
    (IfErr-weaker answer.result _ (λ e. UnderLock (λ a b. PublishesAt a image (Err e.1) b))
    (λ e h. under _ answer.new.self (λ a b. PublishesAt a image (Err e.1) b) c.requires c.history.ensures.history h) answer.ensures.refused)
