use Rattle.std.proofs.Common.{arith}
use Rattle.std.proofs.lemmas.Option.{slice_get_within}
use Rattle.arrival_lists.proofs.Searches.{late_first}
use Rattle.arrival_lists.proofs.arrival_lists.ArrivalLists.best_from.Goals as goal

pub returns-then-first-time : goal.returns-then-first-time
returns-then-first-time c = late_first c.args.self.now c.args.time c.args.first c.requires.is (omega (arith, c.if-first-time.true))

pub later_from-requires : goal.later_from-requires
later_from-requires c = record {
  sound = c.requires.sound;
  within = slice_get_within c.args.self.now.entries.items c.args.first.head c.requires.is.entry c.requires.is.at;
}
