use Rattle.std.proofs.Common.{◌≡◌, List, ℕ, length, string_bytes, subst, arith}
use Rattle.std.specs.List.{slice_get}
use Rattle.feed_stations.specs.Finding.{AreMarks, IsFoundAt, IsInEither, id_of, name_of}
use Rattle.feed_stations.proofs.Marks.{marks_more, marks_none}
use Rattle.feed_stations.proofs.finding.found_each.Goals as goal

pub loop-row_index-init : goal.loop-row_index-init
loop-row_index-init c = marks_none _ _ c.in_ok-found.ensures.items

pub loop-row_index-preserved : goal.loop-row_index-preserved
loop-row_index-preserved c =
    marks_more _ c.loop-row_index.row_index c.loop-row_index.found.items _ c.in_ok-here.here c.in_ok-push.ensures.items
    (rw (c.as_str.ensures.value, c.id.ensures, c.name.ensures) at c.in_ok-here.ensures) c.loop-row_index.invariant

pub returns : goal.returns
returns c =
    let all : c.loop-row_index.row_index ≡ length c.args.stop_table.now.rows.items = omega arith in
    subst (λ (n : ℕ). AreMarks (IsFoundAt c.args.stop_table.now.rows.items c.args.stop_table.now.labels.items c.args.text.now) n c.loop-row_index.found.items)
    all
    (subst (λ (plain : List ℕ). AreMarks (λ k. IsInEither plain (id_of (slice_get c.args.stop_table.now.rows.items k))
    (name_of (slice_get c.args.stop_table.now.labels.items k))) c.loop-row_index.row_index c.loop-row_index.found.items) c.in_ok-text.ensures
    c.loop-row_index.invariant)
