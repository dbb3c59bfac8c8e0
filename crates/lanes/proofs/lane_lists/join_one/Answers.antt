use Rattle.std.proofs.Common.{refl, sym, subst, arith, length}
use Rattle.std.proofs.lemmas.Option.{slice_get_read}
use Rattle.std.proofs.lemmas.Result.{MatchResult-weaker}
use Rattle.reasoning.proofs.BoolLemmas.{where_false}
use Rattle.lanes.specs.LaneLists.{IsOneJoined}
use Rattle.lanes.proofs.BoardLemmas.{least_are}
use Rattle.lanes.proofs.PutLemmas.{is_skipped, is_joined}
use Rattle.lanes.proofs.lane_lists.join_one.Goals as goal

pub returns-then-not-are_adding : goal.returns-then-not-are_adding
returns-then-not-are_adding c =
    let old = c.args.entries.now.items in
    let gone = c.index.result.now in
    let behind = c.index-2.result.now in
    is_skipped old gone behind c.args.from c.args.index c.requires (slice_get_read old (length old) c.args.from gone refl c.requires.within c.index.ensures)
    (slice_get_read old (length old) c.args.index behind refl c.requires.has.within c.index-2.ensures)
    (where_false c.are_adding.result _ _ c.if-not-are_adding.true c.are_adding.ensures)

pub invariant_of-entry : goal.invariant_of-entry
invariant_of-entry c =
    let gone = c.index.result.now in
    let behind = c.index-2.result.now in
    record {
      falls = least_are gone.front.times behind.front.times c.least_words.result gone.front.falls behind.front.falls (omega arith) c.least_words.ensures;
    }

pub returns : goal.returns
returns c =
    let old = c.args.entries.now.items in
    let new = c.push.new.entries.items in
    let gone = c.index.result.now in
    let behind = c.index-2.result.now in
    MatchResult-weaker c.push.result c.push.ensures (λ index h.
    subst (IsOneJoined old c.args.from c.args.index new) (sym h.1)
    (is_joined old gone behind c.args.from c.args.index c.requires (slice_get_read old (length old) c.args.from gone refl c.requires.within c.index.ensures)
    (slice_get_read old (length old) c.args.index behind refl c.requires.has.within c.index-2.ensures) new _ h.0 refl refl c.least_words.ensures (omega arith)
    c.least_tags.ensures.new c.least_tags.ensures.old)) (λ _ full. full)
