use Rattle.std.proofs.Common.{sym, subst, arith}
use Rattle.fronts.specs.Front.{departure_of}
use Rattle.fronts.specs.Putting.{MayJoin, MayPut, IsUnion}
use Rattle.fronts.specs.Front.{points_from}
use Rattle.fronts.proofs.Growth.{same_entries}
use Rattle.fronts.proofs.Points.{departs_at}
use Rattle.fronts.proofs.Joining.{joined_none, joined_may, joined_put, kept_read}
use Rattle.fronts.proofs.insertion.join_one.Goals as goal

pub keep_front-requires : goal.keep_front-requires
keep_front-requires g c =
    let rules = g.C.Criterion.rules c.args.criterion.now in
    record {
      may = subst (λ es. MayJoin rules es c.deref-2.result.now c.args.from c.args.index) (sym c.deref.ensures.value)
          (subst (λ ps. MayJoin rules c.args.entries.now.items ps c.args.from c.args.index) (sym c.deref-2.ensures.value) c.requires.may);
    }

pub returns-then-len-eq0 : goal.returns-then-len-eq0
returns-then-len-eq0 g c =
    let rules = g.C.Criterion.rules c.args.criterion.now in
    let is = kept_read rules c.deref.result.now c.args.entries.now.items c.deref-2.result.now c.args.items.now.items
    c.keep_front.new.kept.items c.args.index c.args.from c.deref.ensures.value c.deref-2.ensures.value
    c.in_ok-keep_front.ensures in
    let early = c.requires.may.early in
    record {
      late = omega arith;
      joined = record {
        more_are = same_entries rules c.args.entries.now.items c.args.items.now.items c.requires.may.sound;
        within = c.requires.may.within;
        union = joined_none rules (g.met.C.Criterion.laws c.args.criterion.now) c.args.entries.now.items c.args.items.now.items
            c.args.from c.args.index c.requires.may c.keep_front.new.kept.items is (omega arith);
      };
    }

pub put-requires : goal.put-requires
put-requires g c =
    let rules = g.C.Criterion.rules c.args.criterion.now in
    let entries = c.args.entries.now.items in
    let is = kept_read rules c.deref.result.now entries c.deref-2.result.now c.args.items.now.items
    c.keep_front.new.kept.items c.args.index c.args.from c.deref.ensures.value c.deref-2.ensures.value
    c.in_ok-keep_front.ensures in
    record {
      may = subst (λ d. MayPut rules entries c.args.items.now.items d c.args.index c.deref-3.result.now)
          (departs_at entries c.args.from c.index.result.now c.requires.may.from_within c.index.ensures)
          (subst (λ ps. MayPut rules entries c.args.items.now.items (departure_of entries c.args.from) c.args.index ps) (sym c.deref-3.ensures.value)
          (joined_may rules (g.met.C.Criterion.laws c.args.criterion.now) entries c.args.items.now.items c.args.from
          c.args.index c.requires.may c.keep_front.new.kept.items is (omega arith)));
    }

pub returns : goal.returns
returns g c =
    let departs = departs_at c.args.entries.now.items c.args.from c.index.result.now c.requires.may.from_within c.index.ensures in
    let put = c.in_ok-new.ensures.departs in
    let rules = g.C.Criterion.rules c.args.criterion.now in
    let entries = c.args.entries.now.items in
    let items = c.args.items.now.items in
    let kept = c.keep_front.new.kept.items in
    let is = kept_read rules c.deref.result.now entries c.deref-2.result.now items kept c.args.index c.args.from
    c.deref.ensures.value c.deref-2.ensures.value c.in_ok-keep_front.ensures in
    let new = points_from c.put.new.entries.items c.put.new.items.items c.in_ok-new.new in
    record {
      late = omega arith;
      joined = record {
        more_are = c.in_ok-new.ensures.joined.more_are;
        within = c.in_ok-new.ensures.joined.within;
        union = joined_put rules (g.met.C.Criterion.laws c.args.criterion.now) entries items c.args.from c.args.index c.requires.may
            kept is new (subst (λ ps. IsUnion rules ps (points_from entries items c.args.index) new) c.deref-3.ensures.value
            c.in_ok-new.ensures.joined.union);
      };
    }
