use Rattle.std.proofs.Common.{refl, sym, subst, slice_index, arith, length}
use Rattle.std.proofs.lemmas.Option.{slice_get_read}
use Rattle.std.proofs.lemmas.Result.{MatchResult-weaker}
use Rattle.lanes.specs.LaneLists.{IsOnePut}
use Rattle.lanes.proofs.BoardLemmas.{boarded_are}
use Rattle.lanes.proofs.PutLemmas.{is_put}
use Rattle.lanes.proofs.lane_lists.put.Goals as goal

pub invariant_of-entry : goal.invariant_of-entry
invariant_of-entry c =
    let behind = c.index.result.now in
    record {
      falls = boarded_are c.args.lanes.now.times behind.front.times (slice_index c.args.lanes.now.tags) c.requires.lanes.lanes_are behind.front.falls
          c.boarded.result (omega arith) c.boarded.ensures.first c.boarded.ensures.rest;
    }

pub returns : goal.returns
returns c =
    let old = c.args.entries.now.items in
    let new = c.push.new.entries.items in
    let behind = c.index.result.now in
    MatchResult-weaker c.push.result c.push.ensures (λ index h.
    subst (IsOnePut old c.args.after c.args.departure c.args.lanes.now c.args.first new) (sym h.1)
    (is_put old new _ h.0 behind c.args.after c.args.departure c.args.first c.args.lanes.now c.requires.may c.requires.lanes
    (slice_get_read old (length old) c.args.after behind refl c.requires.may.has.within c.index.ensures) refl refl
    c.boarded.ensures.first c.boarded.ensures.rest (omega arith) c.boarded_tags.ensures.new c.boarded_tags.ensures.old)) (λ _ full. full)
