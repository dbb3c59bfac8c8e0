use Rattle.std.proofs.Common.{◌≡◌, ◌+◌, ◌∙◌, ap, length, subst, List, string_bytes}
use Rattle.std.proofs.lemmas.List.{length_push, take_all}
use Rattle.gtfs_tables.specs.declared.tables.Trip.{Trip}
use Rattle.service_days.specs.Named.{names_of}
use Rattle.gtfs_rows.specs.Ids.{seen_also}
use Rattle.connections.specs.Active.{AreNamed, names_also}
use Rattle.connections.proofs.ActiveSteps.{named_more, names_more}
use Rattle.connections.proofs.trip_services.service_indices.Goals as goal

pub loop-trip-preserved : goal.loop-trip-preserved
loop-trip-preserved c =
    let was = c.loop-trip.invariant in
    record {
      len = ap length c.in_ok-push.ensures.items ∙ length_push c.loop-trip.indices.items c.in_ok-index.index ∙ ap (λ n. n + 1) was.len;
      named = named_more (names_of c.loop-trip.named) (names_of c.index_of.new.self) c.args.trips.now c.loop-trip.trip-index c.trip-item.result
          c.loop-trip.indices.items c.push.new.self.items c.in_ok-index.index c.loop-trip-test.true c.trip-item.is
          c.in_ok-index.ensures.names c.in_ok-index.ensures.index c.in_ok-push.ensures.items was.named;
      names = c.in_ok-index.ensures.names ∙ ap (λ names. seen_also names (string_bytes c.trip-item.result.service)) was.names
          ∙ names_more (names_of c.args.named.now) c.args.trips.now c.loop-trip.trip-index c.trip-item.result c.loop-trip-test.true c.trip-item.is;
    }

pub returns-clause-names : goal.returns-clause-names
returns-clause-names c =
    subst (λ (ts : List Trip). names_of c.loop-trip.named ≡ names_also (names_of c.args.named.now) ts)
    (take_all c.loop-trip.trip-index c.args.trips.now c.loop-trip-test.false) c.loop-trip.invariant.names

pub returns-clause-named : goal.returns-clause-named
returns-clause-named c =
    subst (λ (ts : List Trip). AreNamed (names_of c.loop-trip.named) ts c.loop-trip.indices.items)
    (take_all c.loop-trip.trip-index c.args.trips.now c.loop-trip-test.false) c.loop-trip.invariant.named
