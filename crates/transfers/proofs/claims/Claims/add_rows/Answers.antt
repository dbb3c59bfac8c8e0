use Rattle.std.proofs.Common.{arith}
use Rattle.transfers.specs.Bans.{IsBannedClaim}
use Rattle.transfers.specs.Lookup.{stops_in, transfers_in}
use Rattle.transfers.specs.Claims.{IsNumberedClaim}
use Rattle.transfers.proofs.AddLemmas.{unbanned_none, unbanned_more, unbanned_end}
use Rattle.transfers.proofs.claims.Claims.add_rows.Goals as goal

pub loop-number-init : goal.loop-number-init
loop-number-init c = unbanned_none (IsBannedClaim (stops_in c.args.known.now) (transfers_in c.args.known.now)) c.args.numbers.now
    (IsNumberedClaim (stops_in c.args.known.now) (transfers_in c.args.known.now) c.args.to) c.args.self.now.made.items

pub loop-number-preserved : goal.loop-number-preserved
loop-number-preserved c = unbanned_more (IsBannedClaim (stops_in c.args.known.now) (transfers_in c.args.known.now)) c.args.numbers.now
    (IsNumberedClaim (stops_in c.args.known.now) (transfers_in c.args.known.now) c.args.to) c.loop-number.number-index 0
    c.args.self.now.made.items c.loop-number.self.made.items c.add_row.new.self.made.items (omega arith) c.loop-number.invariant c.in_ok-add_row.ensures

pub returns : goal.returns
returns c = unbanned_end (IsBannedClaim (stops_in c.args.known.now) (transfers_in c.args.known.now)) c.args.numbers.now
    (IsNumberedClaim (stops_in c.args.known.now) (transfers_in c.args.known.now) c.args.to) c.loop-number.number-index
    c.args.self.now.made.items c.loop-number.self.made.items (omega arith) c.loop-number.invariant
