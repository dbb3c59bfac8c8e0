use Rattle.std.proofs.Common.{◌∙◌, ap}
use Rattle.gtfs_tables.specs.Names.{held_at, stop_named, trip_named}
use Rattle.gtfs_tables.proofs.JoinLemmas.{fault_as_given, links_as_given}
use Rattle.gtfs_tables.proofs.joining.link.Goals as goal

pub stops_by_id-requires : goal.stops_by_id-requires
stops_by_id-requires c = rw c.deref.ensures.value c.requires.stops

pub trips_by_id-requires : goal.trips_by_id-requires
trips_by_id-requires c = rw c.deref-2.ensures.value c.requires.trips

pub link_by-requires-clause-hashed : goal.link_by-requires-clause-hashed
link_by-requires-clause-hashed c = c.in-Ok.ensures.hash ∙ c.hasher-hash.ensures

pub link_by-requires-clause-hashed_indices : goal.link_by-requires-clause-hashed_indices
link_by-requires-clause-hashed_indices c = c.in-Ok-trips_by_id.ensures.hash ∙ c.hasher-hash.ensures

pub returns-in_default-clause-err : goal.returns-in_default-clause-err
returns-in_default-clause-err c = λ other. absurd (other c.out_of_memory.ensures)

pub returns-in_default-trips_by_id-clause-err : goal.returns-in_default-trips_by_id-clause-err
returns-in_default-trips_by_id-clause-err c = λ other. absurd (other c.out_of_memory-in_default-trips_by_id.ensures)

pub returns-clause-ok : goal.returns-clause-ok
returns-clause-ok c =
    links_as_given (held_at c.in-Ok.names) (stop_named c.args.tables.now.stops.items) (held_at c.in-Ok-trips_by_id.indices)
    (trip_named c.args.tables.now.trips.items) c.args.tables.now c.link_by.result
    (λ id. c.in-Ok.ensures.holds id ∙ ap (λ stops. stop_named stops id) c.deref.ensures.value)
    (λ id. c.in-Ok-trips_by_id.ensures.holds id ∙ ap (λ trips. trip_named trips id) c.deref-2.ensures.value)
    c.link_by.ensures.ok

pub returns-clause-err : goal.returns-clause-err
returns-clause-err c =
    fault_as_given (held_at c.in-Ok.names) (stop_named c.args.tables.now.stops.items) (held_at c.in-Ok-trips_by_id.indices)
    (trip_named c.args.tables.now.trips.items) c.args.tables.now c.link_by.result
    (λ id. c.in-Ok.ensures.holds id ∙ ap (λ stops. stop_named stops id) c.deref.ensures.value)
    (λ id. c.in-Ok-trips_by_id.ensures.holds id ∙ ap (λ trips. trip_named trips id) c.deref-2.ensures.value)
    c.link_by.ensures.err
