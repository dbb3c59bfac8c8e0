use Rattle.std.proofs.Common.{◌≤◌, length}
use Rattle.transfers.specs.Listed.{AreListed, LeadBelow}
use Rattle.transfers.proofs.listing.paths_below.Given as goal

abbrev pub invariant-loop-to : goal.invariant-loop-to
invariant-loop-to l = record {
  listed : AreListed l.known.feed.now (LeadBelow l.to) l.paths.items;
  few : length l.paths.items ≤ l.most;
}
