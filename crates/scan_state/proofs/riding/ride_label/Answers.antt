use Rattle.std.proofs.Common.{◌++◌, ◌∷◌, [], false, true, append-nil, sym, ◌∙◌, ap, subst, take}
use Rattle.criteria.specs.Laws.{Admits}
use Rattle.scan_state.specs.Bound.{any_no_worse}
use Rattle.scan_state.proofs.RideLemmas.{one_carried}
use Rattle.scan_state.proofs.riding.ride_label.Goals as goal

pub any_no_worse-requires-clause-value : goal.any_no_worse-requires-clause-value
any_no_worse-requires-clause-value g c =
    subst (Admits (g.C.Criterion.rules c.args.criterion.now)) (sym c.ride-value.ensures)
    ((g.met.C.Criterion.laws c.args.criterion.now).ride_admits c.args.label.now.value c.requires.label)

pub returns-then-any_no_worse : goal.returns-then-any_no_worse
returns-then-any_no_worse g c =
    let rules = g.C.Criterion.rules c.args.criterion.now in
    let old = take c.args.count c.args.ridden.now.items in
    let excluded = ap (any_no_worse rules c.args.bound.now) (sym c.ride-value.ensures) ∙ sym c.any_no_worse.ensures ∙ c.if-any_no_worse.true in (
      c.requires.count,
      sym (ap (λ rs. old ++ rs) (one_carried rules c.args.bound.now c.args.label.now true excluded) ∙ append-nil old),
    )

pub returns : goal.returns
returns g c =
    let rules = g.C.Criterion.rules c.args.criterion.now in
    let old = take c.args.count c.args.ridden.now.items in
    let free = ap (any_no_worse rules c.args.bound.now) (sym c.ride-value.ensures) ∙ sym c.any_no_worse.ensures ∙ c.if-any_no_worse.false in
    let behind = c.in_ok-put_behind.ensures in (
      behind.long,
      behind.items
          ∙ ap (λ (v : g.row.C-V.Denot). old ++ record { value = v; label = c.in_ok-number.number } ∷ []) c.ride-value.ensures
          ∙ ap (λ n. old ++ record { value = rules.ride c.args.label.now.value; label = n } ∷ []) c.in_ok-number.ensures
          ∙ ap (λ rs. old ++ rs) (sym (one_carried rules c.args.bound.now c.args.label.now false free)),
    )
