use Rattle.std.proofs.Common.{AllPairs, sym, ◌∙◌, ap, subst}
use Rattle.std.specs.List.{insert}
use Rattle.scan_state.specs.Points.{Before, CanPut}
use Rattle.profile_scan.proofs.OrderLemmas.{put_in_order, put_there}
use Rattle.profile_scan.proofs.found.put.Goals as goal

pub returns : goal.returns
returns g c =
    let rules = g.C.Criterion.rules c.args.criterion.now in
    let points = c.deref.result.now in
    let index = c.index_for-index.result in
    let at = c.index_for-index.ensures in
    record {
      ordered = put_in_order rules points c.insert.new.self.items index c.args.point
          (c.in_ok-insert.ensures.items ∙ ap (λ xs. insert xs index c.args.point) (sym c.deref.ensures.value))
          at.within (subst (AllPairs (Before rules)) (sym c.deref.ensures.value) c.requires.ordered) at.before at.after;
      put = put_there c.args.points.now.items c.insert.new.self.items index c.args.point c.in_ok-insert.ensures.items;
    }

pub index_for-index-requires : goal.index_for-index-requires
index_for-index-requires g c = subst (λ ps. CanPut (g.C.Criterion.rules c.args.criterion.now) ps c.args.point) (sym c.deref.ensures.value) c.requires
