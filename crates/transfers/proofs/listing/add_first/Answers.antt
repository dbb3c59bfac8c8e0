use Rattle.std.proofs.Common.{◌+◌, List, sym, subst}
use Rattle.std.proofs.lemmas.Option.{slice_get-get_or}
use Rattle.timetable.specs.Legal.{AreInOrder}
use Rattle.timetable.specs.declared.network.Footpath.{Footpath}
use Rattle.transfers.specs.declared.claims.Source.TheVariants.{Default}
use Rattle.transfers.specs.declared.claims.Verdict.TheVariants.{Never}
use Rattle.transfers.specs.Claims.{ArePathsBelow}
use Rattle.transfers.proofs.ClaimLemmas.{claim_of}
use Rattle.transfers.proofs.PathLemmas.{paths_more, paths_skip, order_more}
use Rattle.transfers.proofs.listing.add_first.Goals as goal

pub returns-in_ok-add_path-clause-paths : goal.returns-in_ok-add_path-clause-paths
returns-in_ok-add_path-clause-paths c = λ h.
    subst (λ (ps : List Footpath). ArePathsBelow c.args.claims.now (c.args.index + 1) ps) (sym c.in_ok-add_path.ensures)
    (paths_more c.args.claims.now c.args.index _ (slice_get-get_or c.args.claims.now c.args.index _ c.requires) c.args.paths.now.items h
    (c.is_first.ensures.first c.if-is_first.true))

pub returns-in_ok-add_path-clause-order : goal.returns-in_ok-add_path-clause-order
returns-in_ok-add_path-clause-order c = λ sorted h in_order.
    subst (λ (ps : List Footpath). AreInOrder ps) (sym c.in_ok-add_path.ensures)
    (order_more c.args.claims.now c.args.index _ (slice_get-get_or c.args.claims.now c.args.index _ c.requires) c.args.paths.now.items h
    (c.is_first.ensures.first c.if-is_first.true) sorted in_order)

pub returns-else-is_first-clause-paths : goal.returns-else-is_first-clause-paths
returns-else-is_first-clause-paths c = λ h.
    paths_skip c.args.claims.now c.args.index _ (slice_get-get_or c.args.claims.now c.args.index (claim_of 0 0 Default Never) c.requires)
    c.args.paths.now.items h (c.is_first.ensures.later c.if-is_first.false)
