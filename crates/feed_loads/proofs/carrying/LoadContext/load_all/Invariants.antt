use Rattle.std.proofs.Common.{◌≡◌}
use Rattle.feed_loads.specs.Carrying.{AreCarried, load_input_of, loads_value}
use Rattle.feed_loads.specs.Learned.{LoaderFitsAndLearns}
use Rattle.feed_loads.specs.Words.{loads_of, outcomes_of}
use Rattle.feed_loads.proofs.carrying.LoadContext.load_all.Given as goal

abbrev pub invariant-loop : goal.invariant-loop
invariant-loop g l = record {
  next : (goal.iterator-loop g).can_next l.iterator';
  finite : (goal.iterator-loop g).is_finite l.iterator';
  queue : l.orders.queue ≡ l.fn.orders.queue;
  seat : LoaderFitsAndLearns g.T.Loads.words l.self.shelves.now l.fn.seat l.seat;
  carried : AreCarried (load_input_of (loads_of g.F.Feeds.words (outcomes_of
      g.F.Files.FeedFiles.words
      g.T.Loads.words g.T.Versions.words.version))
      l.self.feeds.now l.fn.orders.queue) l.fn.seat (loads_value l.orders l.used) l.seat;
}
