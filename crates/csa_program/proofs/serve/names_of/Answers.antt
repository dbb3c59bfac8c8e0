use Rattle.std.proofs.Common.{string_bytes}
use Rattle.csa_program.proofs.FeedNames.{named_more}
use Rattle.csa_program.proofs.serve.names_of.Goals as goal

pub loop-feed-preserved : goal.loop-feed-preserved
loop-feed-preserved c =
    named_more string_bytes (λ feed. feed.name.now) c.args.feeds.now c.loop-feed.feed-index _ c.loop-feed.names.items _ _
    c.loop-feed-test.true c.loop-feed.invariant c.in_ok-name_of.ensures c.in_ok-push.ensures.items
