use Rattle.std.proofs.Common.{◌≡◌, ◌++◌, ◌∙◌, List, ap, subst}
use Rattle.std.specs.List.Sorted.{IsPermutation}
use Rattle.std.proofs.lemmas.Result.{IfOk-weaker}
use Rattle.gtfs_tables.specs.declared.tables.Transfer.{Transfer}
use Rattle.transfers.specs.Counting.{KeepsWhatCounts}
use Rattle.transfers.proofs.CountingLemmas.{keeps_moved}
use Rattle.transfers.proofs.counting.rows_that_count.Goals as goal

pub returns : goal.returns
returns c =
    let sorted : List Transfer = c.sort_by_key.new.self.items in
    let copied : c.extend_from_slice.new.self.items ≡ c.args.rows.now = c.in_ok-extend_from_slice.ensures.items
    ∙ ap (λ (ts : List Transfer). ts ++ c.args.rows.now) c.in_ok-sorted.ensures.items in
    let moved : IsPermutation c.args.rows.now sorted = subst (λ (ts : List Transfer). IsPermutation ts sorted) copied
    c.in_ok-sort_by_key.ensures.permutation in
    IfOk-weaker c.counting_rows.result (λ kept. KeepsWhatCounts c.deref.result.now kept.items) (λ kept. KeepsWhatCounts c.args.rows.now kept.items)
    (λ kept h. keeps_moved c.args.rows.now sorted kept.items moved
    (subst (λ (ts : List Transfer). KeepsWhatCounts ts kept.items) c.deref.ensures.value h)) c.counting_rows.ensures
