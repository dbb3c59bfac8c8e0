use Rattle.std.proofs.Common.{refl, sym, ◌∙◌, arith, length}
use Rattle.std.proofs.lemmas.Option.{slice_get_read}
use Rattle.reasoning.proofs.BoolLemmas.{where_true, where_false}
use Rattle.lanes.proofs.TripLemmas.{tagged_set, marked_set, is_full, is_no_news, is_some_news, are_lowered, lowers}
use Rattle.lanes.proofs.trip_lanes.TripLanes.change.Goals as goal

pub returns-then-lacks_lane : goal.returns-then-lacks_lane
returns-then-lacks_lane c =
    let self = c.args.self.now in
    let lanes = c.index-lanes.result.now in
    let there = slice_get_read self.lanes.items (length self.lanes.items) c.args.trip lanes refl c.requires.trip c.index-lanes.ensures in
    (is_full self c.args.trip lanes c.args.front.now c.args.bound.now c.args.first there (sym c.lacks_lane.ensures ∙ c.if-lacks_lane.true), refl)

pub returns-then-not-news : goal.returns-then-not-news
returns-then-not-news c =
    let self = c.args.self.now in
    let lanes = c.index-lanes.result.now in
    let there = slice_get_read self.lanes.items (length self.lanes.items) c.args.trip lanes refl c.requires.trip c.index-lanes.ensures in (
      is_no_news self c.args.trip lanes c.args.front.now c.args.bound.now c.args.first there (sym c.lacks_lane.ensures ∙ c.if-lacks_lane.false)
          (where_false c.are_news-news.result _ _ c.if-not-news.true c.are_news-news.ensures),
      refl,
    )

pub index_mut-requires-2 : goal.index_mut-requires-2
index_mut-requires-2 c = let trip = c.requires.trip in let long = c.args.self.now.marked.long in omega (arith, trip, long)

pub invariant_of-self : goal.invariant_of-self
invariant_of-self c =
    let self = c.args.self.now in
    let lanes = c.index-lanes.result.now in
    let there = slice_get_read self.lanes.items (length self.lanes.items) c.args.trip lanes refl c.requires.trip c.index-lanes.ensures in
    record {
      tagged = tagged_set self.lanes.items c.args.trip (record { times = c.least_of.result; tags = c.retagged.result }) c.requires.trip self.tagged
          (are_lowered self c.args.trip lanes c.args.front.now c.args.bound.now c.args.first there (sym c.lacks_lane.ensures ∙ c.if-lacks_lane.false)
          (record { times = c.least_of.result; tags = c.retagged.result }) (omega arith) (omega arith) c.least_of.ensures c.retagged.ensures.new
          c.retagged.ensures.old);
      marked = marked_set self.lanes.items self.labelled.items c.args.trip (record { times = c.least_of.result; tags = c.retagged.result }) c.requires.trip
          self.marked;
    }

pub returns : goal.returns
returns c =
    let self = c.args.self.now in
    let lanes = c.index-lanes.result.now in
    let there = slice_get_read self.lanes.items (length self.lanes.items) c.args.trip lanes refl c.requires.trip c.index-lanes.ensures in
    let has = sym c.lacks_lane.ensures ∙ c.if-lacks_lane.false in (
      lowers self c.args.trip lanes c.args.front.now c.args.bound.now c.args.first there has
          (record { times = c.least_of.result; tags = c.retagged.result }) (omega arith) (omega arith) c.least_of.ensures c.retagged.ensures.new
          c.retagged.ensures.old
          _ refl c.requires.trip,
      is_some_news self c.args.trip lanes c.args.front.now c.args.bound.now c.args.first there has
          (where_true c.are_news-news.result _ _ c.if-not-news.false c.are_news-news.ensures),
    )
