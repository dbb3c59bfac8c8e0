use Rattle.std.proofs.Common.{◌≡◌, subst}
use Rattle.feed_stations.specs.Finding.{IsIn}
use Rattle.feed_stations.specs.Folding.{folded}
use Rattle.feed_stations.proofs.Found.{second_or_not}
use Rattle.feed_stations.proofs.finding.is_in_either.Goals as goal

pub returns : goal.returns
returns c =
    let never = rw (c.as_str.ensures.value, c.in_ok-id.ensures, c.if-is_in.false) at c.is_in.ensures in
    let is = rw (c.as_str-2.ensures.value, c.in_ok-name.ensures) at c.is_in-2.ensures in
    second_or_not c.is_in-2.result (IsIn c.args.text.now (folded c.args.id.now)) (IsIn c.args.text.now (folded c.args.name.now)) never is
