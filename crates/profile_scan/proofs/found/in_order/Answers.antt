use Rattle.std.proofs.Common.{◌-◌, arith, sym, subst}
use Rattle.bags.specs.Bag.{points_of}
use Rattle.timetable.proofs.LegalLemmas.{Contains-At}
use Rattle.scan_state.proofs.Offers.{bag_under}
use Rattle.profile_scan.proofs.OrderLemmas.{AreListed, none_listed, listed_in, all_listed, comparable, one_listed}
use Rattle.profile_scan.proofs.found.in_order.Goals as goal

pub loop-left-init : goal.loop-left-init
loop-left-init g c =
    subst (λ n. AreListed (g.C.Criterion.rules c.args.criterion.now) (points_of c.args.bag.now) n c.in_ok-points.points.items) (sym c.len-left.ensures)
    (none_listed (g.C.Criterion.rules c.args.criterion.now) (points_of c.args.bag.now) c.in_ok-points.points.items c.in_ok-points.ensures.items)

pub put-requires : goal.put-requires
put-requires g c =
    let rules = g.C.Criterion.rules c.args.criterion.now in
    let points = points_of c.args.bag.now in
    let listed = c.loop-left.points.items in
    let inv = c.loop-left.invariant in
    let bag = bag_under g.C.Criterion.rules c.args.bag.now.criterion c.args.criterion.now points c.requires c.args.bag.now.kept in
    record {
      ordered = inv.ordered;
      admitted = λ p h. bag.admitted p (listed_in rules points c.loop-left.left listed inv p h);
      value = bag.admitted c.point-point.result (Contains-At points (c.loop-left.left - 1) c.point-point.result c.point-point.ensures);
      comparable = comparable rules points (g.met.C.Criterion.laws c.args.criterion.now) bag c.loop-left.left listed
          c.point-point.result inv (omega arith) c.point-point.ensures;
    }

pub loop-left-preserved : goal.loop-left-preserved
loop-left-preserved g c =
    one_listed (g.C.Criterion.rules c.args.criterion.now) (points_of c.args.bag.now) c.loop-left.left
    c.loop-left.points.items c.put.new.points.items c.point-point.result c.loop-left.invariant (omega arith)
    c.point-point.ensures
    c.in_ok-put.ensures.ordered c.in_ok-put.ensures.put

pub returns : goal.returns
returns g c =
    let rules = g.C.Criterion.rules c.args.criterion.now in
    let inv = c.loop-left.invariant in
    record {
      ordered = inv.ordered;
      only = listed_in rules (points_of c.args.bag.now) c.loop-left.left c.loop-left.points.items inv;
      each = all_listed rules (points_of c.args.bag.now) c.loop-left.left c.loop-left.points.items (omega arith) inv;
    }
