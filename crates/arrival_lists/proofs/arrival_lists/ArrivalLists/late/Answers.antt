use Rattle.std.proofs.Common.{length, refl, arith}
use Rattle.std.proofs.lemmas.Option.{slice_get_read, slice_get_within}
use Rattle.arrival_lists.proofs.Searches.{goes_back, is_late, leads_here, leads_on}
use Rattle.arrival_lists.proofs.arrival_lists.ArrivalLists.late.Goals as goal

pub loop-entry-init : goal.loop-entry-init
loop-entry-init c =
    let entries = c.args.self.now.entries.items in
    leads_here entries c.requires.sound c.args.head c.args.time (omega arith) c.index-entry.result.now
    (slice_get_read entries (length entries) c.args.head c.index-entry.result.now refl c.requires.within c.index-entry.ensures)

pub index-entry-requires-in-loop-entry : goal.index-entry-requires-in-loop-entry
index-entry-requires-in-loop-entry c =
    let entries = c.args.self.now.entries.items in
    let at = c.loop-entry.invariant.at in
    let back = goes_back entries c.requires.sound c.args.head c.args.time (omega arith) c.loop-entry.index c.loop-entry.entry at c.loop-entry-test.true in
    let within = slice_get_within entries c.loop-entry.index c.loop-entry.entry at in
    omega (arith, back, within)

pub loop-entry-smaller : goal.loop-entry-smaller
loop-entry-smaller c =
    goes_back c.args.self.now.entries.items c.requires.sound c.args.head c.args.time (omega arith) c.loop-entry.index c.loop-entry.entry
    c.loop-entry.invariant.at c.loop-entry-test.true

pub loop-entry-preserved : goal.loop-entry-preserved
loop-entry-preserved c =
    let entries = c.args.self.now.entries.items in
    let at = c.loop-entry.invariant.at in
    let back = goes_back entries c.requires.sound c.args.head c.args.time (omega arith) c.loop-entry.index c.loop-entry.entry at c.loop-entry-test.true in
    let within = slice_get_within entries c.loop-entry.index c.loop-entry.entry at in
    leads_on entries c.requires.sound c.args.head c.args.time (omega arith) c.loop-entry.index c.loop-entry.entry c.index-entry-in-loop-entry.result.now
    c.loop-entry.invariant c.loop-entry-test.true
    (slice_get_read entries (length entries) c.loop-entry.entry.next c.index-entry-in-loop-entry.result.now refl (omega (arith, back, within))
    c.index-entry-in-loop-entry.ensures)

pub returns : goal.returns
returns c =
    is_late c.args.self.now.entries.items c.requires.sound c.args.head c.args.time (omega arith) c.loop-entry.index c.loop-entry.entry
    c.loop-entry.invariant (omega (arith, c.loop-entry-test.false))
