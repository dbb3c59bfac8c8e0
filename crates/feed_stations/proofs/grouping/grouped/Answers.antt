use Rattle.std.proofs.Common.{◌≡◌, ◌<◌, ◌∙◌, List, None, ap, arith, length, subst, sym}
use Rattle.std.specs.Global.{Vec}
use Rattle.std.proofs.lemmas.List.{get_or_default}
use Rattle.feed_stations.specs.Grouping.{AreGroupsBelow}
use Rattle.feed_stations.proofs.Groups.{groups_more, groups_none, groups_same}
use Rattle.feed_stations.proofs.grouping.grouped.Goals as goal
use Rattle.feed_stations.proofs.grouping.grouped.Goals.{in-Some+in_ok-put_into, in_default}

pub loop-row_index-init : goal.loop-row_index-init
loop-row_index-init c = groups_none c.args.homes.now c.args.count _ c.in_ok-groups.ensures.count c.in_ok-groups.ensures.empty

pub loop-row_index-preserved : goal.loop-row_index-preserved
loop-row_index-preserved c =
    let lt : c.loop-row_index.row_index < length c.args.homes.now = omega arith in
    elim c.match-homes-row_index.branch [
      | in-Some+in_ok-put_into w ↦
          rw w.groups-is (groups_more c.args.homes.now c.args.count c.loop-row_index.row_index w.in-Some.home c.loop-row_index.groups.items
          w.put_into.new.groups.items
          (get_or_default c.args.homes.now c.loop-row_index.row_index None _ lt ∙ w.in-Some.is) w.in_ok-put_into.ensures c.loop-row_index.invariant)
      | in_default w ↦
          rw w.groups-is (groups_same c.args.homes.now c.args.count c.loop-row_index.row_index c.loop-row_index.groups.items
          (get_or_default c.args.homes.now c.loop-row_index.row_index None _ lt ∙ w.in_default.is) c.loop-row_index.invariant)
    ]
