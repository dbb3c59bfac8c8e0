use Rattle.std.proofs.Common.{◌≡◌, ◌∙◌, List, ap, length, subst, sym}
use Rattle.std.specs.Prelude.{IsSortedBy}
use Rattle.std.proofs.lemmas.List.{length-map}
use Rattle.gtfs_tables.specs.Feeds.{linked_by}
use Rattle.gtfs_tables.specs.Order.{comes_before, sort_keys_by, sort_keys_in}
use Rattle.gtfs_tables.specs.declared.order.SortKey.{SortKey}
use Rattle.gtfs_tables.proofs.JoinLemmas.{trips_made, trips_as_given, keys_as_given}
use Rattle.gtfs_tables.proofs.joining.timed_rows.Goals.{After-deref-2}
use Rattle.gtfs_tables.proofs.joining.timed_rows.Goals as goal

made : (c : goal.After-deref-2) → c.deref.result.now
    ≡ linked_by c.args.links.now.names.trips.items c.args.links.now.names.stops.items c.args.links.now.order c.args.rows.items
made c = c.deref.ensures.value ∙ c.in-Ok.ensures

same : (c : goal.After-deref-2) → sort_keys_by c.args.links.now.order c.deref.result.now
    ≡ sort_keys_in c.args.links.now.names.trips.items c.args.links.now.order c.args.rows.items
same c = keys_as_given c.args.links.now.names.trips.items c.args.links.now.names.stops.items c.args.links.now.order c.args.rows.items c.deref.result.now
    (made c)

pub linked_rows-requires : goal.linked_rows-requires
linked_rows-requires c = c.requires.flex

pub returns-in_default-clause-err : goal.returns-in_default-clause-err
returns-in_default-clause-err c = λ other. absurd (other c.out_of_memory.ensures)

pub timed_trips-requires-clause-len : goal.timed_trips-requires-clause-len
timed_trips-requires-clause-len c =
    let from = (goal.at.timed_trips-requires-clause-len c).After-deref-2 in
    ap length (made from) ∙ length-map (sort_keys_in c.args.links.now.names.trips.items c.args.links.now.order c.args.rows.items) _
    ∙ sym (ap length (same from))

pub timed_trips-requires-clause-rising : goal.timed_trips-requires-clause-rising
timed_trips-requires-clause-rising c = subst (λ (sort_keys : List SortKey). IsSortedBy comes_before sort_keys)
    (sym (same (goal.at.timed_trips-requires-clause-rising c).After-deref-2)) c.requires.rising

pub returns-in-Ok-timed_trips-clause-rows : goal.returns-in-Ok-timed_trips-clause-rows
returns-in-Ok-timed_trips-clause-rows c = sym c.deref.ensures.value ∙ made (goal.at.returns-in-Ok-timed_trips-clause-rows c).After-deref-2

pub returns-in-Ok-timed_trips-clause-fine : goal.returns-in-Ok-timed_trips-clause-fine
returns-in-Ok-timed_trips-clause-fine c =
    let from = (goal.at.returns-in-Ok-timed_trips-clause-fine c).After-deref-2 in
    trips_as_given c.args.strict _ _ _ _ _ _ (same from) (made from) c.in-Ok-timed_trips.ensures.fine

pub returns-in-Ok-timed_trips-clause-trips : goal.returns-in-Ok-timed_trips-clause-trips
returns-in-Ok-timed_trips-clause-trips c =
    let from = (goal.at.returns-in-Ok-timed_trips-clause-trips c).After-deref-2 in
    trips_made _ _ _ _ _ _ _ _ (same from) (made from) c.deref-2.ensures.value c.in-Ok-timed_trips.ensures.ok

pub returns-in-Err-clause-err : goal.returns-in-Err-clause-err
returns-in-Err-clause-err c = λ other.
    let from = (goal.at.returns-in-Err-clause-err c).After-deref-2 in
    trips_as_given c.args.strict _ _ _ _ _ _ (same from) (made from) (c.in-Err.ensures.err other)
