use Rattle.std.proofs.Common.{List, [], ◌∷◌, ◌++◌, sym, ◌∙◌, ap}
use Rattle.scan_state.specs.Bound.{any_no_worse}
use Rattle.scan_state.proofs.BoundLemmas.{value_comes, value_stays}
use Rattle.scan_state.proofs.bound.take_value.Goals as goal

pub returns-then-any_no_worse : goal.returns-then-any_no_worse
returns-then-any_no_worse g c =
    let rules = g.C.Criterion.rules c.args.criterion.now in
    value_stays rules c.args.value c.args.values.now.items
    (sym (c.any_no_worse.ensures ∙ ap (λ (xs : List g.row.C-V.Denot). any_no_worse rules xs c.args.value) c.deref.ensures.value) ∙ c.if-any_no_worse.true)

pub returns : goal.returns
returns g c =
    value_comes (g.C.Criterion.rules c.args.criterion.now) (g.met.C.Criterion.laws c.args.criterion.now) c.args.value
    c.args.values.now.items c.push.new.self.items c.requires.values c.requires.value
    (c.in_ok-push.ensures.items ∙ ap (λ (xs : List g.row.C-V.Denot). xs ++ c.args.value ∷ []) c.drop_no_better.ensures)
