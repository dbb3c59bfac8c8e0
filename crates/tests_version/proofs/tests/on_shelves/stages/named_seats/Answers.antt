use Rattle.std.proofs.Common.{◌≡◌, ◌∷◌, All, arith, suc, subst}
use Rattle.tests_version.proofs.tests.on_shelves.stages.named_seats.Goals as goal

-- one seat less is left
pub loop-seat-preserved : goal.loop-seat-preserved
loop-seat-preserved g c =
    let left : All (λ seat. seat.table ≡ g.B.ShelvesName.table) (c.in-Some.seat ∷ c.next.new.self.rest.items) =
    subst (λ items. All (λ seat. seat.table ≡ g.B.ShelvesName.table) items) c.in-Some.ensures.steps.0 c.loop-seat.invariant.2 in
    (tt, tt, λ k d small. left (suc k) d (omega arith))
