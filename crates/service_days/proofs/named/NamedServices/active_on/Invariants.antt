use Rattle.std.proofs.Common.{◌≡◌, List, map, take, string_bytes}
use Rattle.gtfs_rows.specs.declared.rows.CalendarDateRow.{CalendarDateRow}
use Rattle.gtfs_rows.specs.declared.rows.CalendarRow.{CalendarRow}
use Rattle.service_days.specs.Services.{HoldsServices, is_active}
use Rattle.service_days.proofs.named.NamedServices.active_on.Given as goal

abbrev pub invariant-loop-id : goal.invariant-loop-id
invariant-loop-id l = (calendar : List CalendarRow) (dates : List CalendarDateRow) → HoldsServices calendar dates l.services
    → l.running.items ≡ map (λ name. is_active calendar dates name l.day) (map string_bytes (take l.id-index l.self.ids.keys))
