use Rattle.std.proofs.lemmas.Result.{IfOk-weaker, IfErr-weaker}
use Rattle.std.proofs.Common.{◌≡◌}
use Rattle.transfers.specs.Listed.{AreAllListed, AreListed, LeadBelow, ListsMore, ListsMoreBelow}
use Rattle.transfers.specs.declared.fault.ListingFault.TheVariants.{TooMany}
use Rattle.transfers.proofs.ListedLemmas.{all_listed, lists_more}
use Rattle.transfers.proofs.listing.listed_within.Goals as goal

pub returns-clause-all : goal.returns-clause-all
returns-clause-all c = IfOk-weaker c.paths_below.result (λ v. AreListed c.args.feed.now (LeadBelow c.end_of_stops-end.result) v.items)
    (λ v. AreAllListed c.args.feed.now v.items)
    (λ v h. all_listed c.args.feed.now c.end_of_stops-end.result c.end_of_stops-end.ensures.below v.items h) c.paths_below.ensures.listed

pub returns-clause-many : goal.returns-clause-many
returns-clause-many c =
    IfErr-weaker c.paths_below.result (λ fault. fault ≡ TooMany
    → ListsMoreBelow c.args.feed.now c.end_of_stops-end.result c.args.most) (λ fault. fault ≡ TooMany → ListsMore c.args.feed.now c.args.most)
    (λ fault h fact. lists_more c.args.feed.now c.end_of_stops-end.result c.end_of_stops-end.ensures.below c.args.most (h fact)) c.paths_below.ensures.many
