use Rattle.std.proofs.Common.{◌∙◌, ℕ, List, Option, MatchOption, ap, arith, map, subst}
use Rattle.std.specs.Global.{Vec}
use Rattle.matrix_rows.specs.Sought.{AreFound, IsOneMissing}
use Rattle.matrix_rows.proofs.Sought.{line_missing, no_sets, set_more}
use Rattle.matrix_rows.proofs.lists.sets_found.Goals as goal

pub loop-index-init : goal.loop-index-init
loop-index-init c = no_sets c.args.found.now c.in_ok-sets.sets.items c.in_ok-sets.ensures.items

pub loop-index-preserved : goal.loop-index-preserved
loop-index-preserved c =
    let found = c.args.found.now in
    let ids = map (λ id. id.now) c.deref.result.now in
    set_more (λ line. line.now) c.args.listed.now c.loop-index.index _ found c.loop-index.sets.items c.push_set.new.sets.items c.in-Some.set
    (omega arith) c.loop-index.invariant
    (subst (λ (xs : List (List ℕ)). AreFound found xs c.in-Some.set.items) (ap (map (λ id. id.now)) c.deref.ensures.value ∙ c.in_ok-ids.ensures)
    (subst (λ (o : Option (Vec ℕ)). MatchOption o (IsOneMissing found ids) (λ stops. AreFound found ids stops.items)) c.in-Some.is c.in_ok-set.ensures))
    c.in_ok-push_set-in-Some.ensures

pub returns-in-None-clause-missing : goal.returns-in-None-clause-missing
returns-in-None-clause-missing c =
    let found = c.args.found.now in
    let ids = map (λ id. id.now) c.deref.result.now in
    line_missing (λ line. line.now) c.args.listed.now c.loop-index.index _ found c.loop-index.sets.items ids
    (omega arith) c.loop-index.invariant (ap (map (λ id. id.now)) c.deref.ensures.value ∙ c.in_ok-ids.ensures)
    (subst (λ (o : Option (Vec ℕ)). MatchOption o (IsOneMissing found ids) (λ stops. AreFound found ids stops.items)) c.in-None.is c.in_ok-set.ensures)
