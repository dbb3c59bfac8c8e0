use Rattle.std.proofs.Common.{arith}
use Rattle.std.proofs.lemmas.Result.{MatchResult-weaker}
use Rattle.arrival_lists.proofs.Insertions.{may_ahead, news_by_first, taken_ahead, taken_by_first}
use Rattle.arrival_lists.proofs.arrival_lists.ArrivalLists.insert.Goals as goal

pub returns-then-first-time-clause-taken : goal.returns-then-first-time-clause-taken
returns-then-first-time-clause-taken c =
    taken_by_first c.args.self.now c.args.first c.requires.first c.args.departure c.args.time c.args.step c.requires.time
    (omega (arith, c.if-first-departure.false)) (omega (arith, c.if-first-time.true))

pub put_new-requires : goal.put_new-requires
put_new-requires c =
    may_ahead c.args.self.now c.args.first c.requires.first c.args.departure c.args.time c.args.step c.requires.time
    (omega (arith, c.if-first-departure.false)) (omega (arith, c.if-first-time.false))

pub returns-clause-taken : goal.returns-clause-taken
returns-clause-taken c =
    MatchResult-weaker c.put_new.result c.put_new.ensures.put
    (λ now put. taken_ahead c.args.self.now c.args.first c.requires.first c.args.departure c.args.time c.args.step c.requires.time c.put_new.new.self now put)
    (λ _ _. tt)

pub returns-clause-known : goal.returns-clause-known
returns-clause-known c = λ r.
    absurd (news_by_first c.args.self.now c.args.first c.requires.first c.args.departure c.args.time c.args.step c.requires.time
    (omega (arith, c.if-first-time.false)) r)
