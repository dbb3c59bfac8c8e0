use Rattle.std.proofs.Common.{◌<◌, ◌≤◌, ◌∙◌, if◌then◌else◌, inl, inr, length, refl, ap, subst, sym, ℕ, arith}
use Rattle.std.proofs.lemmas.Bool.{cases_lt, leb-true, lt-ltb}
use Rattle.std.proofs.lemmas.Option.{slice_get_read}
use Rattle.scan_state.specs.ScanState.{final_walk_in}
use Rattle.arrival_lists.specs.Lists.{never}
use Rattle.by_arrival.proofs.ByArrivalLemmas.{is_idle}
use Rattle.by_arrival.proofs.by_arrival_taking.ByArrivalKeepingArrival.is_idle.Goals as goal

pub returns-in-None : goal.returns-in-None
returns-in-None c = λ idle stops trips bound under.
    let kept = c.args.self.now in
    let label = c.index-label.result.now in
    let point = c.index-point.result.now in
    let trip_in = subst (λ (n : ℕ). c.args.connection.now.trip < n) (sym c.requires.under.trips_are) c.requires.trip in
    let stop_in = subst (λ (n : ℕ). c.args.connection.now.to < n) (sym c.requires.under.stops_are) c.requires.stop in
    let most = leb-true never c.min.result idle in
    let least = c.min.ensures in
    let limit = under.are.limit in
    let late : kept.bound ≤ point.time = elim (cases_lt point.time kept.bound) [
      | inl lt ↦
          let shown = c.unless_excluded.ensures ∙ ap (λ b. if b then point.time else never) (lt-ltb point.time kept.bound lt) in
          absurd (omega (arith, lt, limit, most, least, shown))
      | inr ge ↦ ge
    ] in
    is_idle kept under.are bound under.excludes c.args.connection.now.trip c.args.connection.now.to label point
    (slice_get_read kept.labels.items (length kept.labels.items) c.args.connection.now.trip label refl trip_in c.index-label.ensures)
    (slice_get_read kept.firsts.items (length kept.firsts.items) c.args.connection.now.to point refl stop_in c.index-point.ensures)
    (omega (arith, most, least)) late c.args.connection.now (final_walk_in c.args.entry) (sym c.final_walk_of.ensures ∙ c.in-None.is)
