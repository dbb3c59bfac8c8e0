use Rattle.std.proofs.Common.{◌≡◌, ℕ, ◌+◌, ◌<◌, ◌++◌, ◌∷◌, [], List, cond, not, length, take, get_or, sym, ◌∙◌, ap, append-nil, arith}
use Rattle.std.proofs.lemmas.List.{take_more}
use Rattle.std.proofs.lemmas.List.Elements.{filter-append}
use Rattle.criteria.specs.Laws.{Rules}
use Rattle.fronts.specs.declared.labels.Label.{Label}
use Rattle.fronts.specs.Offered.{others}
use Rattle.fronts.proofs.labels.keep_others.Goals.{then-not-no_worse+in_ok-push, else-not-no_worse}
use Rattle.fronts.proofs.labels.keep_others.Goals as goal

-- one label more
others_more : {V : Type 0} (rules : Rules V) (v : V) (labels : List (Label V)) (k : ℕ) (x : Label V) → k < length labels
    → x ≡ get_or labels k x
    → others rules v (take (k + 1) labels) ≡ others rules v (take k labels) ++ cond (not (rules.no_worse v x.value)) (x ∷ []) []
others_more {V} rules v labels k x lt is =
    ap (others rules v) (take_more labels k x lt ∙ ap (λ (y : Label V). take k labels ++ y ∷ []) (sym is))
    ∙ filter-append (λ (l : Label V). not (rules.no_worse v l.value)) (take k labels) (x ∷ [])

pub loop-k-preserved : goal.loop-k-preserved
loop-k-preserved g c =
    let rules = g.C.Criterion.rules c.args.criterion.now in
    let x = c.index-labels-k.result in
    let so_far = others rules c.args.value.now (take c.loop-k.k c.args.labels.now) in
    let step = others_more rules c.args.value.now c.args.labels.now c.loop-k.k x (omega arith) c.index-labels-k.is in
    elim c.if-not-no_worse.branch [
      | then-not-no_worse+in_ok-push w ↦ rw w.kept-is (w.in_ok-push.ensures.items
          ∙ ap (λ (ls : List (Label g.row.C-V.Denot)). ls ++ x ∷ []) c.loop-k.invariant
          ∙ sym (step ∙ ap (λ b. so_far ++ cond (not b) (x ∷ []) []) (sym c.no_worse.ensures ∙ w.if-not-no_worse.true)))
      | else-not-no_worse w ↦ rw w.kept-is (c.loop-k.invariant ∙ sym (step
          ∙ ap (λ b. so_far ++ cond (not b) (x ∷ []) []) (sym c.no_worse.ensures ∙ w.if-not-no_worse.false) ∙ append-nil so_far))
    ]
