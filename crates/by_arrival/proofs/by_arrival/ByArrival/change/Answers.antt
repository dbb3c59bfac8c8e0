use Rattle.std.proofs.Common.{◌≡◌, Some, length, refl, slice_get, arith}
use Rattle.std.proofs.lemmas.Option.{slice_get_read}
use Rattle.std.proofs.lemmas.Result.{on_ok_weaker}
use Rattle.arrival_lists.proofs.Searches.{best_from}
use Rattle.by_arrival.proofs.ByArrivalLemmas.{all_excluded, changed_by, no_news}
use Rattle.by_arrival.proofs.by_arrival.ByArrival.change.Goals.{After-index-label}
use Rattle.by_arrival.proofs.by_arrival.ByArrival.change.Goals as goal

first_at : (c : After-index-label) → slice_get c.args.self.now.firsts.items c.args.hop.now.connection.to ≡ Some c.index-first.result.now
first_at c =
    let firsts = c.args.self.now.firsts.items in
    slice_get_read firsts (length firsts) c.args.hop.now.connection.to c.index-first.result.now refl c.requires.1.stop c.index-first.ensures

label_at : (c : After-index-label) → slice_get c.args.self.now.labels.items c.args.hop.now.connection.trip ≡ Some c.index-label.result.now
label_at c =
    let labels = c.args.self.now.labels.items in
    slice_get_read labels (length labels) c.args.hop.now.connection.trip c.index-label.result.now refl c.requires.1.trip c.index-label.ensures

pub returns-then-first-min : goal.returns-then-first-min
returns-then-first-min c =
    let point = (goal.at.returns-then-first-min c).After-index-label in
    let can = c.requires.1 in
    let least = c.min.ensures in
    no_news c.args.hop.now c.args.self.now can.are can.excludes c.index-first.result.now (first_at point) c.index-label.result.now (label_at point)
    (omega (arith, least, c.if-first-min.true))

pub best_from-best-requires : goal.best_from-best-requires
best_from-best-requires c =
    let can = c.requires.1 in
    record {
      sound = can.are.sound;
      is = can.are.firsts c.args.hop.now.connection.to c.index-first.result.now (first_at (goal.at.best_from-best-requires c).After-index-label);
    }

pub returns-then-best-self : goal.returns-then-best-self
returns-then-best-self c =
    let can = c.requires.1 in
    all_excluded c.args.hop.now c.args.self.now can.are can.excludes c.index-first.result.now
    (first_at (goal.at.returns-then-best-self c).After-index-label) c.best_from-best.result
    (best_from c.args.self.now.lists c.requires.1.are.sound c.index-first.result.now.head c.args.hop.now.connection.arr c.best_from-best.result
    c.best_from-best.ensures) (omega (arith, c.if-best-self.true))

pub offer-requires-clause-time : goal.offer-requires-clause-time
offer-requires-clause-time c =
    let limit = c.requires.1.are.limit in
    ((best_from c.args.self.now.lists c.requires.1.are.sound c.index-first.result.now.head c.args.hop.now.connection.arr c.best_from-best.result
    c.best_from-best.ensures).made_of (omega (arith, limit, c.if-best-self.false))).2

pub returns : goal.returns
returns c =
    let can = c.requires.1 in
    let limit = can.are.limit in
    on_ok_weaker c.offer.result
    (changed_by c.args.hop.now c.args.self.now can.are can.excludes c.index-first.result.now (first_at (goal.at.returns c).After-index-label)
    c.best_from-best.result
    (best_from c.args.self.now.lists c.requires.1.are.sound c.index-first.result.now.head c.args.hop.now.connection.arr c.best_from-best.result
    c.best_from-best.ensures) (omega (arith, limit, c.if-best-self.false)) c.offer.new.self)
    c.offer.ensures
