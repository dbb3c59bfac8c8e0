use Rattle.std.proofs.Common.{ℕ, List, Option, Some, sym, subst}
use Rattle.transfers.specs.declared.bans.Ban.{Ban}
use Rattle.transfers.specs.Bans.{AreBans, IsVoid}
use Rattle.transfers.specs.Lookup.{transfers_in}
use Rattle.transfers.proofs.lookup.FeedLookup.is_void.Goals as goal

pub returns-in-Some-Some-clause-void : goal.returns-in-Some-Some-clause-void
returns-in-Some-Some-clause-void c = λ found.
    let rows = transfers_in c.args.self.now in
    let are : AreBans rows c.deref.result.now = subst (λ (bs : List Ban). AreBans rows bs) (sym c.deref.ensures.value) c.requires.bans in
    subst (λ (o : Option ℕ). IsVoid rows o c.args.to) (sym c.in-Some-Some.is-0)
    (subst (λ (o : Option ℕ). IsVoid rows (Some c.in-Some-Some.from) o) (sym c.in-Some-Some.is-1) (c.is_ban.ensures.found rows are found))

pub returns-in-Some-Some-clause-fine : goal.returns-in-Some-Some-clause-fine
returns-in-Some-Some-clause-fine c = λ no_ void.
    let rows = transfers_in c.args.self.now in
    let are : AreBans rows c.deref.result.now = subst (λ (bs : List Ban). AreBans rows bs) (sym c.deref.ensures.value) c.requires.bans in
    c.is_ban.ensures.none rows are no_
    (subst (λ (o : Option ℕ). IsVoid rows (Some c.in-Some-Some.from) o) c.in-Some-Some.is-1
    (subst (λ (o : Option ℕ). IsVoid rows o c.args.to) c.in-Some-Some.is-0 void))
