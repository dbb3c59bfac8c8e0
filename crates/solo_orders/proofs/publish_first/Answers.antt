use Rattle.std.proofs.Common.{rules, ◌≡◌, Some}
use Rattle.solo_orders.specs.Feeds.{index_of}
use Rattle.solo_orders.proofs.FeedLemmas.{leaves, loaded_as, refused_so}
use Rattle.solo_orders.proofs.publish_first.Goals as goal

pub returns-in-Ok-clause-step : goal.returns-in-Ok-clause-step
returns-in-Ok-clause-step g c =
    let at : Some c.in-Some.index ≡ index_of c.args.feed.now c.args.feeds.now.items = search rules in
    let gone = leaves _ _ _ c.remove-found.result _ at c.remove-found.ensures.value c.remove-found.ensures.items in
    loaded_as _ _ _ _ _ _ _ _ _ gone c.in-Ok.ensures.loader c.collect-collected.ensures.loader

pub returns-clause-step : goal.returns-clause-step
returns-clause-step g c =
    let at : Some c.in-Some.index ≡ index_of c.args.feed.now c.args.feeds.now.items = search rules in
    let gone = leaves _ _ _ c.remove-found.result _ at c.remove-found.ensures.value c.remove-found.ensures.items in
    refused_so _ _ _ _ _ _ _ gone c.in-Err.ensures.loader
