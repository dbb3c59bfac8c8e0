use Rattle.transfers.proofs.BanLemmas.{bans_sorted}
use Rattle.transfers.proofs.bans.bans_of.Goals as goal

pub returns : goal.returns
returns c = bans_sorted c.args.rows.now c.in_ok-bans.bans.items c.sort.new.self.items c.in_ok-bans.ensures c.in_ok-sort.ensures.permutation
    c.in_ok-sort.ensures.sorted
