use Rattle.std.proofs.Common.{arith, sym, subst, List, take}
use Rattle.std.proofs.lemmas.List.{take_all}
use Rattle.gtfs_tables.specs.declared.tables.Transfer.{Transfer}
use Rattle.transfers.specs.Counting.{KeepsWhatCounts}
use Rattle.transfers.proofs.CountingLemmas.{keeps_none, keeps_more}
use Rattle.transfers.proofs.counting.counting_rows.Goals as goal

pub loop-row-init : goal.loop-row-init
loop-row-init c = subst (λ (ts : List Transfer). KeepsWhatCounts (take 0 c.args.rows.now) ts) (sym c.new-kept.ensures.items) (keeps_none c.args.rows.now)

pub loop-row-preserved : goal.loop-row-preserved
loop-row-preserved c = keeps_more c.args.rows.now c.loop-row.row-index _ c.loop-row.kept.items c.keep.new.kept.items (omega arith)
    c.loop-row.invariant c.in_ok-keep.ensures

pub returns : goal.returns
returns c = subst (λ (ts : List Transfer). KeepsWhatCounts ts c.loop-row.kept.items) (take_all c.loop-row.row-index c.args.rows.now (omega arith))
    c.loop-row.invariant
