use Rattle.std.proofs.Common.{◌≡◌, Some, arith}
use Rattle.std.proofs.lemmas.Grind.{common_steps}
use Rattle.footpaths.specs.Search.{time_at, IsCappedTime}
use Rattle.footpaths.proofs.WalkLemmas.{followed_those, capped_in_front}
use Rattle.footpaths.proofs.search.Search.follow.Goals as goal

pub returns-in_ok-spread-clause-followed : goal.returns-in_ok-spread-clause-followed
returns-in_ok-spread-clause-followed c = λ listed index now.
    followed_those listed c.spread.new.self.times.items c.args.next.stop c.args.next.secs.0 c.into.result.now (c.into.ensures.those listed index)
    c.in_ok-spread.ensures.within

pub returns-in_ok-spread-clause-walked : goal.returns-in_ok-spread-clause-walked
returns-in_ok-spread-clause-walked c = λ listed target index old.
    let known : time_at c.args.self.now.times.items c.args.next.stop ≡ Some c.args.next.secs.0 = grind (arith, common_steps) in
    let capped : IsCappedTime listed c.args.cap c.args.next.stop target c.args.next.secs.0 = old c.args.next.stop c.args.next.secs.0 known in
    let those = c.into.ensures.those listed index in
    c.in_ok-spread.ensures.walked listed target
    (λ k d below. capped_in_front listed c.args.cap target c.args.next.stop c.args.next.secs.0 _ (those.into k d below).0 (those.into k d below).1 capped)
    old
