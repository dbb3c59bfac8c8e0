use Rattle.std.proofs.Common.{length, slice_get, Some, refl, ◌≡◌}
use Rattle.std.proofs.lemmas.Option.{slice_get_read}
use Rattle.scan_state.proofs.Offers.{if_ok_both}
use Rattle.lanes.specs.Lanes.{trip_rules}
use Rattle.by_trips.proofs.BeyondLemmas.{inserted_at}
use Rattle.by_trips.proofs.by_trips.insert_at.Goals.{After-index_mut}
use Rattle.by_trips.proofs.by_trips.insert_at.Goals as goal

there : (c : After-index_mut) → slice_get c.args.bags.now.items c.args.index ≡ Some c.index_mut.result.now
there c =
    let bags = c.args.bags.now in
    slice_get_read bags.items (length bags.items) c.args.index c.index_mut.result.now refl c.requires.there c.index_mut.ensures.value

pub insert-requires : goal.insert-requires
insert-requires c = c.requires.admitted

pub returns : goal.returns
returns c =
    let at = there (goal.at.returns c).After-index_mut in
    if_ok_both c.insert.result _ _ _
    (λ stands is_stands is_inserted. inserted_at trip_rules c.args.index
    (record { departure = c.args.departure; value = c.args.value; tag = c.args.tag }) stands c.args.bags.now.items c.index_mut.result.now
    c.insert.new.self at is_stands is_inserted) c.insert.ensures.stands c.insert.ensures.inserted
