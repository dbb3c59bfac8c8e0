use Rattle.std.proofs.Common.{arith}
use Rattle.scan_state.proofs.Offers.{on_ok_more}
use Rattle.by_trips.proofs.LanesBoarded.{boards}
use Rattle.by_trips.proofs.in_lanes.InLanes.board_walk.Goals as goal

pub returns : goal.returns
returns c =
    on_ok_more c.board.result _ _ (λ boarded. boards c.args.hop.now c.args.walk_index c.in_ok-number.number c.args.walk c.args.self.now c.requires
    c.board.new.self boarded c.in_ok-number.ensures (omega (arith, c.if-walk-dep.false))) c.board.ensures
