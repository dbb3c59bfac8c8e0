use Rattle.std.proofs.Common.{◌≡◌, ◌∷◌, All, arith, suc, subst}
use Rattle.tests_worker.proofs.serving.holding.hold_all.Goals as goal

-- one seat less is left
pub loop-seat-preserved : goal.loop-seat-preserved
loop-seat-preserved c =
    let left : All (λ seat. seat.table ≡ c.args.shelves.now) (c.in-Some.seat ∷ c.next.new.self.rest.items) =
    subst (λ items. All (λ seat. seat.table ≡ c.args.shelves.now) items) c.in-Some.ensures.steps.0 c.loop-seat.invariant.3 in
    (tt, tt, c.hold.ensures, λ k d small. left (suc k) d (omega arith))
