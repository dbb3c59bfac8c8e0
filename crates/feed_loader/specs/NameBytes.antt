-- How many bytes names have together.
use Rattle.std.specs.Prelude.{ℕ, List, length}
use Rattle.std.specs.List.{sum_by}
use Rattle.std.specs.String.{string_bytes}
use Rattle.gtfs_tables.specs.declared.tables.Stop.{Stop}
use Rattle.gtfs_tables.specs.declared.tables.Trip.{Trip}
use Rattle.connections.specs.declared.runs.Run.{Run}
use Rattle.feed_loader.specs.Loaded.{run_name}

abbrev pub stop_bytes : List Stop → ℕ
stop_bytes stops = sum_by (λ stop. length (string_bytes stop.id)) stops

abbrev pub run_bytes : List Trip → List Run → ℕ
run_bytes trips runs = sum_by (λ run. length (run_name trips run).name) runs
