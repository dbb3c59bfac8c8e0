use Rattle.by_trips.proofs.ByTripsTaken.{made_anew, still_right}
use Rattle.by_trips.proofs.in_lanes.InLanes.renew.Goals as goal

pub returns-then-hop : goal.returns-then-hop
returns-then-hop c = made_anew c.args.hop.now.bound.now c.args.self.now c.requires c.front_of-self.result c.front_of-self.ensures

pub returns-else-hop : goal.returns-else-hop
returns-else-hop c = still_right c.args.hop.now.bound.now c.args.self.now c.requires
