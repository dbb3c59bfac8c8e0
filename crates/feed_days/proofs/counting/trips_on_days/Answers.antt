use Rattle.std.proofs.Common.{◌≡◌, ◌∙◌, ℕ, List, ap, false, get_or, map, subst, sym}
use Rattle.std.specs.List.{count_by}
use Rattle.gtfs_rows.specs.declared.rows.CalendarRow.{CalendarRow}
use Rattle.gtfs_rows.specs.declared.rows.CalendarDateRow.{CalendarDateRow}
use Rattle.gtfs_rows.specs.declared.values.Day.{Day}
use Rattle.gtfs_tables.specs.declared.tables.Trip.{Trip}
use Rattle.service_days.specs.Named.{names_of}
use Rattle.service_days.specs.Services.{is_active, service_runs}
use Rattle.service_days.specs.declared.services.Service.{Service}
use Rattle.connections.specs.Active.{AreNamed, active_among}
use Rattle.connections.specs.Runs.{runs_on}
use Rattle.feed_days.specs.Service.{trips_on}
use Rattle.feed_days.proofs.Ridden.{all_dated, both_ok, trips_counted}
use Rattle.feed_days.proofs.counting.trips_on_days.Goals as goal

pub count_on_days-requires : goal.count_on_days-requires
count_on_days-requires c = all_dated c.args.days.now c.deref-8.result.now (c.deref-8.ensures.value ∙ c.in_ok-dated.ensures)

pub returns : goal.returns
returns c =
    let feed = c.args.feed.now in
    let names = names_of c.service_indices.new.named in
    let active : (day : Day) → map (λ service. service_runs service day) c.deref-6.result.now ≡ active_among feed names day = λ day.
    ap (λ (services : List Service). map (λ service. service_runs service day) services) c.deref-6.ensures.value
    ∙ c.in_ok-each.ensures c.deref.result.now c.deref-2.result.now c.in_ok-services.ensures.holds day
    ∙ ap (λ (rows : List CalendarRow). map (λ name. is_active rows c.deref-2.result.now name day) names) c.deref.ensures.value
    ∙ ap (λ (rows : List CalendarDateRow). map (λ name. is_active feed.calendar.items rows name day) names) c.deref-2.ensures.value in
    let named : AreNamed names c.deref-5.result.now c.deref-4.result.now =
    subst (λ (trips : List Trip). AreNamed names trips c.deref-4.result.now) (c.deref-3.ensures.value ∙ sym c.deref-5.ensures.value)
    (subst (λ (indices : List ℕ). AreNamed names c.deref-3.result.now indices) (sym c.deref-4.ensures.value) c.in_ok-indices.ensures.named) in
    let rode : (day : Day) → count_by (λ service. get_or (active_among feed names day) service false) c.deref-7.result.now ≡ trips_on feed day = λ day.
    ap (λ (ridden : List ℕ). count_by (λ service. get_or (active_among feed names day) service false) ridden) c.deref-7.ensures.value
    ∙ c.in_ok-ridden.ensures feed day names named
    ∙ ap (λ (trips : List Trip). count_by (runs_on feed day) trips) c.deref-5.ensures.value in
    both_ok c.count_on_days.result _ _ _ (λ counts long each.
    trips_counted feed c.args.days.now c.deref-8.result.now c.deref-6.result.now names c.deref-7.result.now counts.items
    (c.deref-8.ensures.value ∙ c.in_ok-dated.ensures) active rode long each) c.count_on_days.ensures.len c.count_on_days.ensures.each
