use Rattle.std.proofs.Common.{◌≡◌, List, map, take, string_bytes}
use Rattle.gtfs_rows.specs.declared.rows.CalendarDateRow.{CalendarDateRow}
use Rattle.gtfs_rows.specs.declared.rows.CalendarRow.{CalendarRow}
use Rattle.gtfs_rows.specs.declared.values.Day.{Day}
use Rattle.service_days.specs.Services.{HoldsServices, is_active, service_runs}
use Rattle.service_days.proofs.named.NamedServices.look_up_each.Given as goal

abbrev pub invariant-loop-id : goal.invariant-loop-id
invariant-loop-id l = (calendar : List CalendarRow) (dates : List CalendarDateRow) → HoldsServices calendar dates l.services
    → (day : Day) → map (λ service. service_runs service day) l.each.items
    ≡ map (λ name. is_active calendar dates name day) (map string_bytes (take l.id-index l.self.ids.keys))
