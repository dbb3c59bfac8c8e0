use Rattle.std.proofs.Common.{◌∙◌, Bool, List, ℕ, Contains, MatchBool, ap, arith, map, subst, sym}
use Rattle.std.proofs.lemmas.List.{length-map, take_all}
use Rattle.reasoning.proofs.ListLemmas.{not_in_nil}
use Rattle.matrix_rows.specs.Listed.{AreDifferent}
use Rattle.matrix_rows.proofs.Repeats.{line_apart, stop_twice_at}
use Rattle.matrix_rows.proofs.lists.stop_twice.Goals as goal

pub loop-index-init : goal.loop-index-init
loop-index-init c = λ line h. absurd (not_in_nil line h)

pub loop-index-preserved : goal.loop-index-preserved
loop-index-preserved c =
    let ids = map (λ id. id.now) c.deref.result.now in
    line_apart (λ line. line.now) c.args.listed.now c.loop-index.index _ ids (omega arith) c.loop-index.invariant
    (ap (map (λ id. id.now)) c.deref.ensures.value ∙ c.in_ok-ids.ensures)
    (subst (λ (b : Bool). MatchBool b (AreDifferent ids → ⊥) (AreDifferent ids)) c.if-repeated.false c.in_ok-repeated.ensures)

pub returns-then-repeated : goal.returns-then-repeated
returns-then-repeated c =
    let ids = map (λ id. id.now) c.deref.result.now in
    stop_twice_at (λ line. line.now) c.args.listed.now c.loop-index.index _ ids (omega arith) c.loop-index.invariant
    (ap (map (λ id. id.now)) c.deref.ensures.value ∙ c.in_ok-ids.ensures)
    (subst (λ (b : Bool). MatchBool b (AreDifferent ids → ⊥) (AreDifferent ids)) c.if-repeated.true c.in_ok-repeated.ensures)

pub returns : goal.returns
returns c =
    let items = c.args.listed.now in
    let long = length-map items (λ line. line.now) in
    λ line h. c.loop-index.invariant line
    (subst (λ (ls : List (List ℕ)). Contains ls line) (sym (take_all c.loop-index.index (map (λ line. line.now) items) (omega (arith, long)))) h)
