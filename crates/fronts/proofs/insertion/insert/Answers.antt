use Rattle.std.proofs.Common.{◌<◌, length, sym, subst, arith}
use Rattle.fronts.specs.Front.{departure_of, points_from}
use Rattle.fronts.specs.Putting.{IsPath, DepartBefore, MayPut, IsUnion}
use Rattle.fronts.specs.Walking.{MayInsert}
use Rattle.fronts.proofs.Growth.{extends_long, same_entries, still_more}
use Rattle.fronts.proofs.Inserted.{AreWalked, walked, path_more, before_more, takes_none, takes_may, takes_covers, takes_all}
use Rattle.fronts.proofs.insertion.insert.Given as given
use Rattle.fronts.proofs.insertion.insert.Goals.{In_ok-keep_walked, In_ok-index}
use Rattle.fronts.proofs.insertion.insert.Goals as goal

pub keep_walked-requires : goal.keep_walked-requires
keep_walked-requires g c =
    let rules = g.C.Criterion.rules c.args.criterion.now in
    let entries = c.args.entries.now.items in
    let after = c.in_ok-after.after in
    let may = c.requires.may in
    record {
      may = subst (λ es. MayInsert rules es c.deref-4.result.now after c.args.boarding.secs c.args.ridden.now) (sym c.deref-3.ensures.value)
          (subst (λ ps. MayInsert rules entries ps after c.args.boarding.secs c.args.ridden.now) (sym c.deref-4.ensures.value) (record {
            sound = may.sound;
            within = subst (λ es. after < length es) c.deref.ensures.value c.in_ok-after.ensures.late.within;
            short = may.short;
            admitted = may.admitted;
          }));
    }

-- what is known before the put
known : (g : given.Over) (c : goal.In_ok-keep_walked g)
    → AreWalked (g.C.Criterion.rules c.args.criterion.now) c.args.entries.now.items c.args.items.now.items c.args.head
    c.args.boarding c.in_ok-after.after c.args.ridden.now c.keep_walked.new.steps.items c.keep_walked.new.kept.items
known g c =
    walked (g.C.Criterion.rules c.args.criterion.now) c.args.entries.now.items c.args.items.now.items c.args.head
    c.args.boarding c.in_ok-after.after c.args.ridden.now c.keep_walked.new.steps.items c.keep_walked.new.kept.items
    c.deref.result.now c.deref-3.result.now c.deref-2.result.now c.deref-4.result.now c.deref.ensures.value
    c.deref-2.ensures.value c.deref-3.ensures.value c.deref-4.ensures.value c.requires.may
    c.in_ok-after.ensures.late c.in_ok-keep_walked.ensures.1

-- the entries that are passed, as they stand before the put
path : (g : given.Over) (c : goal.In_ok-index g) → IsPath c.args.entries.now.items c.args.head c.pass.new.passed.items c.in_ok-after.after
path g c = subst (λ es. IsPath es c.args.head c.pass.new.passed.items c.in_ok-after.after) c.deref.ensures.value c.in_ok-after.ensures.path

-- what the put list is made of
union : (g : given.Over) (c : goal.In_ok-index g)
    → IsUnion (g.C.Criterion.rules c.args.criterion.now) c.keep_walked.new.kept.items
    (points_from c.args.entries.now.items c.args.items.now.items c.in_ok-after.after)
    (points_from c.put.new.entries.items c.put.new.items.items c.in_ok-index.index)
union g c =
    subst (λ ps. IsUnion (g.C.Criterion.rules c.args.criterion.now) ps
    (points_from c.args.entries.now.items c.args.items.now.items c.in_ok-after.after)
    (points_from c.put.new.entries.items c.put.new.items.items c.in_ok-index.index))
    c.deref-5.ensures.value c.in_ok-index.ensures.joined.union

pub returns-then-len-eq0-clause-takes : goal.returns-then-len-eq0-clause-takes
returns-then-len-eq0-clause-takes g c = (
  c.requires.may.within,
  takes_none (g.C.Criterion.rules c.args.criterion.now) (g.met.C.Criterion.laws c.args.criterion.now)
      c.args.entries.now.items c.args.items.now.items c.args.head c.args.boarding c.in_ok-after.after c.args.ridden.now
      c.keep_walked.new.steps.items c.keep_walked.new.kept.items
      (known g (goal.at.returns-then-len-eq0-clause-takes g c).In_ok-keep_walked) (omega arith),
)

pub put-requires : goal.put-requires
put-requires g c = record {
  may = subst (λ ps. MayPut (g.C.Criterion.rules c.args.criterion.now) c.args.entries.now.items c.args.items.now.items c.args.boarding.departure
      c.in_ok-after.after ps) (sym c.deref-5.ensures.value)
      (takes_may (g.C.Criterion.rules c.args.criterion.now) (g.met.C.Criterion.laws c.args.criterion.now)
      c.args.entries.now.items c.args.items.now.items c.args.head c.args.boarding c.in_ok-after.after c.args.ridden.now
      c.keep_walked.new.steps.items c.keep_walked.new.kept.items (known g (goal.at.put-requires g c).In_ok-keep_walked) (omega arith));
}

pub join-requires : goal.join-requires
join-requires g c =
    let rules = g.C.Criterion.rules c.args.criterion.now in
    let entries = c.args.entries.now.items in
    let two = c.put.new.entries.items in
    let after = c.in_ok-after.after in
    let more = c.in_ok-index.ensures.joined.more_are in
    let here = (goal.at.join-requires g c).In_ok-index in
    let are = known g (goal.at.join-requires g c).In_ok-keep_walked in
    let grows = extends_long entries two more.entries_more in
    let within = are.late.within in
    let early = subst (λ es. DepartBefore es c.args.boarding.departure c.pass.new.passed.items) c.deref.ensures.value c.in_ok-after.ensures.early in
    record {
      may = record {
        sound = more.sound;
        path = path_more rules entries two c.args.items.now.items c.put.new.items.items c.requires.may.sound more.entries_more more.items_more c.args.head
            c.pass.new.passed.items after (path g here);
        after_within = omega arith;
        within = c.in_ok-index.ensures.joined.within;
        early = before_more rules entries two c.args.items.now.items c.put.new.items.items c.requires.may.sound more.entries_more more.items_more
            c.args.head c.pass.new.passed.items after c.args.boarding.departure (departure_of two c.in_ok-index.index) (path g here) early
            c.in_ok-index.ensures.departs;
        covers = takes_covers rules (g.met.C.Criterion.laws c.args.criterion.now) entries c.args.items.now.items c.args.head c.args.boarding after
            c.args.ridden.now c.keep_walked.new.steps.items c.keep_walked.new.kept.items are two c.put.new.items.items
            (points_from two c.put.new.items.items c.in_ok-index.index) more.entries_more more.items_more (union g here);
      };
    }

pub returns-in_err-new-clause-more : goal.returns-in_err-new-clause-more
returns-in_err-new-clause-more g c =
    still_more (g.C.Criterion.rules c.args.criterion.now) c.args.entries.now.items c.put.new.entries.items
    c.join.new.entries.items c.args.items.now.items c.put.new.items.items c.join.new.items.items
    c.in_ok-index.ensures.joined.more_are c.in_err-new.ensures

pub returns-clause-more : goal.returns-clause-more
returns-clause-more g c =
    still_more (g.C.Criterion.rules c.args.criterion.now) c.args.entries.now.items c.put.new.entries.items
    c.join.new.entries.items c.args.items.now.items c.put.new.items.items c.join.new.items.items
    c.in_ok-index.ensures.joined.more_are c.in_ok-new.ensures.more_are

pub returns-clause-takes : goal.returns-clause-takes
returns-clause-takes g c =
    let more = c.in_ok-index.ensures.joined.more_are in (
      c.in_ok-new.ensures.within,
      takes_all (g.C.Criterion.rules c.args.criterion.now) (g.met.C.Criterion.laws c.args.criterion.now)
          c.args.entries.now.items c.args.items.now.items c.args.head c.args.boarding c.in_ok-after.after c.args.ridden.now
          c.keep_walked.new.steps.items c.keep_walked.new.kept.items (known g (goal.at.returns-clause-takes g c).In_ok-keep_walked)
          c.put.new.entries.items c.put.new.items.items
          (points_from c.put.new.entries.items c.put.new.items.items c.in_ok-index.index)
          (points_from c.join.new.entries.items c.join.new.items.items c.in_ok-new.new) more.entries_more more.items_more
          (union g (goal.at.returns-clause-takes g c).In_ok-index) c.in_ok-new.ensures.union,
    )

pub returns-in_err-after-clause-more : goal.returns-in_err-after-clause-more
returns-in_err-after-clause-more g c =
    same_entries (g.C.Criterion.rules c.args.criterion.now) c.args.entries.now.items c.args.items.now.items c.requires.may.sound

pub returns-in_err-keep_walked-clause-more : goal.returns-in_err-keep_walked-clause-more
returns-in_err-keep_walked-clause-more g c =
    same_entries (g.C.Criterion.rules c.args.criterion.now) c.args.entries.now.items c.args.items.now.items c.requires.may.sound

pub returns-then-len-eq0-clause-more : goal.returns-then-len-eq0-clause-more
returns-then-len-eq0-clause-more g c =
    same_entries (g.C.Criterion.rules c.args.criterion.now) c.args.entries.now.items c.args.items.now.items c.requires.may.sound
