use Rattle.std.proofs.Common.{◌+◌, List, take, arith, sym, subst}
use Rattle.transfers.specs.declared.bans.Ban.{Ban}
use Rattle.transfers.specs.Bans.{HasBans}
use Rattle.transfers.proofs.BanLemmas.{bans_none, bans_more, bans_end}
use Rattle.transfers.proofs.bans.bans_made.Goals as goal

pub loop-row-init : goal.loop-row-init
loop-row-init c = subst (λ (bs : List Ban). HasBans (take 0 c.args.rows.now) bs) (sym c.new-bans.ensures.items) (bans_none c.args.rows.now)

pub loop-row-preserved : goal.loop-row-preserved
loop-row-preserved c = subst (λ (bs : List Ban). HasBans (take (c.loop-row.row-index + 1) c.args.rows.now) bs) (sym c.in_ok-add_ban.ensures)
    (bans_more c.args.rows.now c.loop-row.row-index _ c.loop-row.bans.items (omega arith) c.loop-row.invariant)

pub returns : goal.returns
returns c = bans_end c.args.rows.now c.loop-row.row-index c.loop-row.bans.items (omega arith) c.loop-row.invariant
