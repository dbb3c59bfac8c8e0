use Rattle.std.proofs.Common.{◌≡◌, ◌∙◌, ap, sym, ℕ}
use Rattle.std.proofs.Common.{true, false}
use Rattle.std.specs.Global.{Vec}
use Rattle.feed_stations.specs.Choosing.{is_chosen}
use Rattle.feed_stations.proofs.Counted.{kept_more, left_out}
use Rattle.feed_stations.proofs.texts.choose.Goals as goal
use Rattle.feed_stations.proofs.texts.choose.Goals.{then-is_chosen+in_ok-push, else-is_chosen}

pub loop-row_index-preserved : goal.loop-row_index-preserved
loop-row_index-preserved c =
    let judged = rw (c.deref-in-loop-row_index.ensures.value, c.deref-in-loop-row_index-2.ensures.value) at c.is_chosen.ensures in
    elim c.if-is_chosen.branch [
      | then-is_chosen+in_ok-push w ↦
          kept_more (is_chosen c.args.stop_table.now.rows.items c.in_ok-groups.groups.items c.in_ok-found.found.items) c.loop-row_index.row_index
          c.loop-row_index.chosen.items c.if-is_chosen.chosen.items (sym judged ∙ w.if-is_chosen.true)
          (ap (λ (v : Vec ℕ). v.items) w.chosen-is ∙ w.in_ok-push.ensures.items) c.loop-row_index.invariant
      | else-is_chosen w ↦
          ap (λ (v : Vec ℕ). v.items) w.chosen-is
          ∙ left_out (is_chosen c.args.stop_table.now.rows.items c.in_ok-groups.groups.items c.in_ok-found.found.items) c.loop-row_index.row_index
          c.loop-row_index.chosen.items (sym judged ∙ w.if-is_chosen.false) c.loop-row_index.invariant
    ]
