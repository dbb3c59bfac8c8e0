use Rattle.std.proofs.Common.{◌∙◌, sym}
use Rattle.transfers.proofs.BanLemmas.{ban_unless, ban_yes}
use Rattle.transfers.proofs.bans.is_ban.Goals as goal

pub returns-clause-found : goal.returns-clause-found
returns-clause-found c = λ rows are found. ban_yes rows c.args.bans.now c.args.from c.args.to c.binary_search.result are c.binary_search.ensures.bound
    c.binary_search.ensures.position (sym c.is_ok.ensures.value ∙ found)

pub returns-clause-none : goal.returns-clause-none
returns-clause-none c = λ rows are no_. ban_unless rows c.args.bans.now c.args.from c.args.to c.binary_search.result are
    c.binary_search.ensures.position (sym c.is_ok.ensures.value ∙ no_)
