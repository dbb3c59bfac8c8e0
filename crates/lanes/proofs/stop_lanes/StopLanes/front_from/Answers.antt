use Rattle.std.proofs.Common.{◌<◌, List, length, ◌∙◌, sym, subst, slice_index}
use Rattle.std.proofs.lemmas.List.{get_or_default}
use Rattle.lanes.specs.LaneLists.{AreLists, IsLate}
use Rattle.lanes.specs.declared.lane_lists.LaneEntry.{LaneEntry}
use Rattle.lanes.proofs.SearchLemmas.{front_made_of, front_betters}
use Rattle.lanes.proofs.stop_lanes.StopLanes.front_from.Goals as goal

pub late-requires : goal.late-requires
late-requires c =
    let self = c.args.self.now in
    let head = sym (c.index.ensures ∙ get_or_default self.heads.items c.args.stop c.index.result.now 0 c.requires.stop) in
    record {
      lists = subst (λ (es : List LaneEntry). AreLists es) (sym c.deref.ensures.value) c.requires.lists.lists;
      within = subst (λ (es : List LaneEntry). c.index.result.now < length es) (sym c.deref.ensures.value)
          (subst (λ n. n < length self.entries.items) head (c.requires.lists.within c.args.stop));
    }

pub returns : goal.returns
returns c =
    let self = c.args.self.now in
    let entries = self.entries.items in
    let head = sym (c.index.ensures ∙ get_or_default self.heads.items c.args.stop c.index.result.now 0 c.requires.stop) in
    let late = subst (λ n. IsLate entries n c.args.time c.late.result) (sym head)
    (subst (λ (es : List LaneEntry). IsLate es c.index.result.now c.args.time c.late.result) c.deref.ensures.value c.late.ensures) in
    record {
      within = late.1.within;
      made_of = front_made_of entries c.requires.lists.lists (slice_index self.heads.items c.args.stop) c.args.time c.late.result late;
      betters = front_betters entries c.requires.lists.lists (slice_index self.heads.items c.args.stop) c.args.time c.late.result late;
    }
