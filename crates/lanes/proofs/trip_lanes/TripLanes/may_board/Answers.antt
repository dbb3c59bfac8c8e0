use Rattle.std.proofs.Common.{Contains, Option, slice_index, subst, length, refl}
use Rattle.std.proofs.lemmas.Option.{slice_get_read}
use Rattle.reasoning.proofs.BoolLemmas.{where_false}
use Rattle.lanes.specs.LanesWithTags.{labels_in}
use Rattle.lanes.specs.declared.trip_lanes.Lanes.{Lanes}
use Rattle.lanes.proofs.BoardLemmas.{all_outdone}
use Rattle.lanes.proofs.trip_lanes.TripLanes.may_board.Goals as goal

pub returns : goal.returns
returns c = λ none l h.
    let self = c.args.self.now in
    let lanes = c.index.result.now in
    let there = slice_get_read self.lanes.items (length self.lanes.items) c.args.trip lanes refl c.requires c.index.ensures in
    let each = where_false c.are_below.result _ _ none c.are_below.ensures in
    all_outdone lanes.times (slice_index lanes.tags) (self.tagged c.args.trip lanes there).lanes_are c.args.bound.now.times c.args.bound.now.falls each l
    (subst (λ (o : Option Lanes). Contains (labels_in o) l) there h)
