use Rattle.std.proofs.Common.{◌≡◌, ◌≤◌, Bool, cond, arith, subst, count_by}
use Rattle.version_core.specs.Invariants.{is_at}
use Rattle.version_core.proofs.Lists.{is_counted}
use Rattle.version_core.specs.declared.state.Shelf.{Shelf}
use Rattle.version_core.specs.Shown.{shelf_word}
use Rattle.std.specs.Prelude.{slice_index, ◌+◌}
use Rattle.tests_version.specs.PlainStore.{NoStoreOpens}
use Rattle.shelf_steps.proofs.Says.{counts_are}
use Rattle.tests_version.proofs.tests.plain_store.no_store_opens.Goals as goal

stores_nothing : NoStoreOpens
stores_nothing table l i k version v loads opened here at word r =
    let c = counts_are table l r loads in
    let one : 1 ≤ count_by (is_at k) c.0 =
    subst (λ (b : Bool). cond b 1 0 ≤ count_by (is_at k) c.0) at (is_counted (is_at k) c.0 v.number v.now (c.2 i v here)) in
    let counted : slice_index table.words (k + 1) ≡ shelf_word (Shelf.Open version) (count_by (is_at k) c.0) = c.5 k (Shelf.Open version) opened in
    omega arith

pub returns : goal.returns
returns c = stores_nothing
