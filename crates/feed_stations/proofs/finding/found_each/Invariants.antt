use Rattle.feed_stations.specs.Finding.{AreMarks, IsInEither, id_of, name_of}
use Rattle.std.proofs.Common.{string_bytes}
use Rattle.std.specs.List.{slice_get}
use Rattle.feed_stations.proofs.finding.found_each.Given as goal

abbrev pub invariant-loop-row_index : goal.invariant-loop-row_index
invariant-loop-row_index l =
    AreMarks (λ k. IsInEither (string_bytes l.text) (id_of (slice_get l.stop_table.rows.items k))
    (name_of (slice_get l.stop_table.labels.items k))) l.row_index l.found.items
