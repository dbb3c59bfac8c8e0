use Rattle.std.proofs.Common.{slice_index}
use Rattle.lanes.proofs.CoverLemmas.{points_admitted}
use Rattle.lanes.proofs.laws.points_are_admitted.Goals as goal

pub returns : goal.returns
returns c = λ stop p is.
    let stops = c.args.stops.now in
    points_admitted stops.entries.items c.requires.lists (slice_index stops.heads.items stop) p (c.requires.within stop) is
