use Rattle.std.proofs.Common.{rules, ◌∷◌, [], ◌∙◌, length, length-append, refl, ap, arith}
use Rattle.std.specs.Global.{Vec}
use Rattle.arrival_lists.specs.declared.arrival_lists.ArrivalLists.{ArrivalLists}
use Rattle.arrival_lists.specs.declared.entry.Entry.{Entry}
use Rattle.arrival_lists.proofs.Insertions.{joined, joins_none, joins_on, may_again, more_same}
use Rattle.arrival_lists.proofs.arrival_lists.ArrivalLists.join.Goals as goal

pub loop-entry-init : goal.loop-entry-init
loop-entry-init c = joins_none c.args.self.now c.args.first c.requires

pub put-requires : goal.put-requires
put-requires c =
    let mid : ArrivalLists = record { entries = c.loop-entry.self.entries; passed = c.pop.new.self } in
    may_again c.args.self.now c.args.first c.requires c.loop-entry.self c.loop-entry.new c.loop-entry.invariant mid refl c.in-Some.entry
    c.in-Some.ensures.items

pub returns-in_err-new-clause-more : goal.returns-in_err-new-clause-more
returns-in_err-new-clause-more c =
    more_same c.args.self.now c.loop-entry.self c.put.new.self c.loop-entry.invariant.more c.in_err-new.ensures.put

pub loop-entry-smaller : goal.loop-entry-smaller
loop-entry-smaller c =
    let same = ap (λ (v : Vec Entry). length v.items) c.in_ok-new.ensures.passed in
    let longer = ap length c.in-Some.ensures.items ∙ length-append c.pop.new.self.items (c.in-Some.entry ∷ []) in
    omega (arith, same, longer)

pub loop-entry-preserved : goal.loop-entry-preserved
loop-entry-preserved c =
    let mid : ArrivalLists = record { entries = c.loop-entry.self.entries; passed = c.pop.new.self } in
    joins_on c.args.self.now c.args.first c.requires c.loop-entry.self c.loop-entry.new c.loop-entry.invariant mid refl c.in-Some.entry
    c.in-Some.ensures.items c.put.new.self c.in_ok-new.new c.in_ok-new.ensures.put (ap (λ (v : Vec Entry). v.items) c.in_ok-new.ensures.passed)

pub returns-clause-more : goal.returns-clause-more
returns-clause-more c =
    let new : ArrivalLists = record { entries = c.loop-entry.self.entries; passed = c.pop.new.self } in
    more_same c.args.self.now c.loop-entry.self new c.loop-entry.invariant.more refl

pub returns-clause-joined : goal.returns-clause-joined
returns-clause-joined c =
    let new : ArrivalLists = record { entries = c.loop-entry.self.entries; passed = c.pop.new.self } in
    joined c.args.self.now c.args.first c.requires c.loop-entry.self new c.loop-entry.new c.loop-entry.invariant refl (search rules)
