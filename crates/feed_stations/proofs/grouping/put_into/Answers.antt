use Rattle.std.proofs.Common.{◌<◌, ◌≤◌, length, arith}
use Rattle.feed_stations.proofs.Groups.{put_nowhere, put_there}
use Rattle.feed_stations.proofs.grouping.put_into.Goals as goal

pub returns-in_ok-push : goal.returns-in_ok-push
returns-in_ok-push c =
    let lt : c.args.home < length c.args.groups.now.items = omega arith in
    put_there c.args.home c.args.stop c.args.groups.now.items c.index_mut.result.now c.push.new.self lt c.index_mut.ensures.value c.in_ok-push.ensures.items

pub returns-else-home-len : goal.returns-else-home-len
returns-else-home-len c =
    let past : length c.args.groups.now.items ≤ c.args.home = omega arith in
    put_nowhere c.args.home c.args.stop c.args.groups.now.items past
