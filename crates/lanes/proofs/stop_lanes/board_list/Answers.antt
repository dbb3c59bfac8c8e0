use Rattle.std.proofs.Common.{◌+◌, ◌<◌, ◌≤◌, ℕ, List, Option, min, slice_index, sym, subst, arith, length, refl}
use Rattle.std.proofs.lemmas.Option.{slice_get_read}
use Rattle.std.proofs.lemmas.Result.{IfOk-weaker}
use Rattle.reasoning.proofs.BoolLemmas.{where_false}
use Rattle.reasoning.proofs.ListLemmas.{extends_none, extends_on}
use Rattle.lanes.specs.Lanes.{AreLanes}
use Rattle.lanes.specs.LaneLists.{IsLate, words_in}
use Rattle.lanes.specs.StopLanes.{steps_in}
use Rattle.lanes.specs.declared.lane_lists.LaneEntry.{LaneEntry}
use Rattle.lanes.proofs.StopLemmas.{none_taken, may_put, may_join, taken_ahead, taken_behind}
use Rattle.lanes.proofs.stop_lanes.board_list.Goals as goal

pub returns-then-not-are_boarding : goal.returns-then-not-are_boarding
returns-then-not-are_boarding c =
    let old = c.args.entries.now.items in
    let late = subst (λ (es : List LaneEntry). IsLate es c.args.head c.args.boarding.departure c.late-after.result) c.deref.ensures.value
    c.late-after.ensures in
    let e = c.index.result.now in
    let is = slice_get_read old (length old) c.late-after.result e refl late.1.within c.index.ensures in
    let each = where_false c.are_boarding.result _ _ c.if-not-are_boarding.true c.are_boarding.ensures in
    record {
      more = record { has = c.requires.list; more = extends_none old };
      takes = none_taken old c.args.head c.late-after.result c.args.boarding c.args.lanes.now c.args.bound.now.times c.requires.list late c.requires.lanes
          c.args.bound.now.falls (steps_in c.args.steps.now.items)
          (subst (λ (o : Option LaneEntry). (k : ℕ) → k < 8
          → min (slice_index (words_in o) (k + 1)) (slice_index c.args.bound.now.times (k + 1)) ≤ slice_index c.args.lanes.now.times k) (sym is) each)
          (subst (λ (o : Option LaneEntry). AreLanes 9 (words_in o)) (sym is) e.front.falls);
      steps_more = extends_none (steps_in c.args.steps.now.items);
    }

pub put-requires-clause-may : goal.put-requires-clause-may
put-requires-clause-may c =
    let old = c.args.entries.now.items in
    let late = subst (λ (es : List LaneEntry). IsLate es c.args.head c.args.boarding.departure c.late-after.result) c.deref.ensures.value
    c.late-after.ensures in
    may_put old c.args.head c.late-after.result c.args.boarding c.args.lanes.now c.args.bound.now.times c.requires.list late c.requires.lanes
    c.args.bound.now.falls

pub join-requires : goal.join-requires
join-requires c =
    let old = c.args.entries.now.items in
    let late = subst (λ (es : List LaneEntry). IsLate es c.args.head c.args.boarding.departure c.late-after.result) c.deref.ensures.value
    c.late-after.ensures in
    may_join old c.args.head c.late-after.result c.args.boarding c.args.lanes.now c.args.bound.now.times c.requires.list late c.requires.lanes
    c.args.bound.now.falls c.put.new.entries.items c.in_ok-new.new c.in_ok-first.first c.in_ok-new.ensures

pub returns-then-after-head : goal.returns-then-after-head
returns-then-after-head c =
    let old = c.args.entries.now.items in
    let late = subst (λ (es : List LaneEntry). IsLate es c.args.head c.args.boarding.departure c.late-after.result) c.deref.ensures.value
    c.late-after.ensures in
    record {
      more = c.in_ok-new.ensures.more;
      takes = taken_ahead old c.args.head c.late-after.result c.args.boarding c.args.lanes.now c.args.bound.now.times c.requires.list late c.requires.lanes
          c.args.bound.now.falls c.put.new.entries.items c.in_ok-new.new c.in_ok-first.first c.in_ok-new.ensures (steps_in c.push_step.new.steps.items)
          (steps_in c.args.steps.now.items) c.in_ok-first.ensures.1 (omega arith);
      steps_more = c.in_ok-first.ensures.1.more;
    }

pub returns : goal.returns
returns c =
    let old = c.args.entries.now.items in
    let mid = c.put.new.entries.items in
    let new = c.join.new.entries.items in
    let late = subst (λ (es : List LaneEntry). IsLate es c.args.head c.args.boarding.departure c.late-after.result) c.deref.ensures.value
    c.late-after.ensures in
    let put = c.in_ok-new.ensures in
    IfOk-weaker c.join.result _ _ (λ result joined. record {
      more = record { has = joined.more.has; more = extends_on old mid new put.more.more joined.more.more };
      takes = taken_behind old c.args.head c.late-after.result c.args.boarding c.args.lanes.now c.args.bound.now.times c.requires.list late c.requires.lanes
          c.args.bound.now.falls mid c.in_ok-new.new c.in_ok-first.first put (steps_in c.push_step.new.steps.items) (steps_in c.args.steps.now.items)
          c.in_ok-first.ensures.1 new result joined;
      steps_more = c.in_ok-first.ensures.1.more;
    }) c.join.ensures
