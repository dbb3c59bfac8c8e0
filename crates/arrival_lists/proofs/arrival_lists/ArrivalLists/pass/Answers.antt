use Rattle.std.proofs.Common.{◌∙◌, length, refl, ap, sym, arith}
use Rattle.std.specs.Global.{Vec}
use Rattle.std.proofs.Common.{slice_get}
use Rattle.std.proofs.lemmas.Option.{slice_get_read, slice_get_within}
use Rattle.arrival_lists.specs.declared.entry.Entry.{Entry}
use Rattle.arrival_lists.proofs.Searches.{goes_back, passes_all, passes_none, passes_on}
use Rattle.arrival_lists.proofs.arrival_lists.ArrivalLists.pass.Goals as goal

pub loop-entry-init : goal.loop-entry-init
loop-entry-init c =
    let entries = c.args.self.now.entries.items in
    record {
      same = refl;
      passes = passes_none entries c.requires.sound c.args.head c.args.departure c.args.time (omega arith) c.index-entry.result.now
          (slice_get_read entries (length entries) c.args.head c.index-entry.result.now refl c.requires.within c.index-entry.ensures) c.clear.new.self.items
          c.clear.ensures.items;
    }

pub returns-in_err-append-clause-entries : goal.returns-in_err-append-clause-entries
returns-in_err-append-clause-entries c = c.loop-entry.invariant.same

pub overflow_cast-index-in-loop-entry : goal.overflow_cast-index-in-loop-entry
overflow_cast-index-in-loop-entry c =
    let back = goes_back c.args.self.now.entries.items c.requires.sound c.args.head c.args.departure (omega arith) c.loop-entry.index c.loop-entry.entry
    c.loop-entry.invariant.passes.at c.loop-entry-test.ensures.0 in
    let fits = c.loop-entry.auto.index-fits in
    omega (arith, back, fits)

pub index-entry-requires-in-loop-entry : goal.index-entry-requires-in-loop-entry
index-entry-requires-in-loop-entry c =
    let entries = c.args.self.now.entries.items in
    let at = c.loop-entry.invariant.passes.at in
    let back = goes_back entries c.requires.sound c.args.head c.args.departure (omega arith) c.loop-entry.index c.loop-entry.entry at
    c.loop-entry-test.ensures.0 in
    let within = slice_get_within entries c.loop-entry.index c.loop-entry.entry at in
    let same = ap (λ (v : Vec Entry). length v.items) c.loop-entry.invariant.same in
    omega (arith, back, within, same)

pub loop-entry-smaller : goal.loop-entry-smaller
loop-entry-smaller c =
    goes_back c.args.self.now.entries.items c.requires.sound c.args.head c.args.departure (omega arith) c.loop-entry.index c.loop-entry.entry
    c.loop-entry.invariant.passes.at c.loop-entry-test.ensures.0

pub loop-entry-preserved : goal.loop-entry-preserved
loop-entry-preserved c =
    let entries = c.args.self.now.entries.items in
    let now = c.loop-entry.self.entries.items in
    let at = c.loop-entry.invariant.passes.at in
    let back = goes_back entries c.requires.sound c.args.head c.args.departure (omega arith) c.loop-entry.index c.loop-entry.entry at
    c.loop-entry-test.ensures.0 in
    let within = slice_get_within entries c.loop-entry.index c.loop-entry.entry at in
    let same = ap (λ (v : Vec Entry). length v.items) c.loop-entry.invariant.same in
    record {
      same = c.loop-entry.invariant.same;
      passes = passes_on entries c.requires.sound c.args.head c.args.departure c.args.time (omega arith) c.loop-entry.index c.loop-entry.entry
          c.index-entry-in-loop-entry.result.now c.loop-entry.self.passed.items c.append.new.items.items c.loop-entry.invariant.passes
          c.loop-entry-test.ensures.0 c.loop-entry-test.ensures.1 c.in_ok-append.ensures.added
          (sym (ap (λ (v : Vec Entry). slice_get v.items c.loop-entry.entry.next) c.loop-entry.invariant.same)
          ∙ slice_get_read now (length now) c.loop-entry.entry.next c.index-entry-in-loop-entry.result.now refl (omega (arith, back, within, same))
          c.index-entry-in-loop-entry.ensures);
    }

pub returns-clause-entries : goal.returns-clause-entries
returns-clause-entries c = c.loop-entry.invariant.same

pub returns-clause-all : goal.returns-clause-all
returns-clause-all c =
    passes_all c.args.self.now.entries.items c.requires.sound c.args.head c.args.departure c.args.time (omega arith) c.loop-entry.index c.loop-entry.entry
    c.loop-entry.self.passed.items c.loop-entry.invariant.passes c.loop-entry-test.ensures
