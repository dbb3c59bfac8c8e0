use Rattle.std.proofs.Common.{get_or, sym, ◌∙◌, arith}
use Rattle.fronts.proofs.Points.{front_at, one_outdone, several_not_outdone, entry_part, entry_admitted, read_again}
use Rattle.fronts.proofs.search.outdoes.Goals as goal

pub returns-then-entry-gt0 : goal.returns-then-entry-gt0
returns-then-entry-gt0 g c =
    let rules = g.C.Criterion.rules c.args.criterion.now in
    let entries = c.args.arena.entries.now in
    let items = c.args.arena.items.now in
    let e = get_or entries c.args.index c.index-arena-index.result in
    let is = read_again entries c.args.index c.index-arena-index.result c.index-arena-index.is in
    sym (several_not_outdone rules c.args.value.now _ items e
    (front_at entries items c.args.index e (omega arith) c.requires.entry.within is) c.if-entry-gt0.true
    (entry_part rules entries items c.requires.entry.sound c.args.index e c.requires.entry.within is))

pub no_worse-requires-clause-other : goal.no_worse-requires-clause-other
no_worse-requires-clause-other g c =
    let entries = c.args.arena.entries.now in
    entry_admitted (g.C.Criterion.rules c.args.criterion.now) entries c.args.arena.items.now c.requires.entry.sound c.args.index _
    (omega arith) c.requires.entry.within
    (read_again entries c.args.index c.index-arena-index.result c.index-arena-index.is)

pub returns : goal.returns
returns g c =
    let rules = g.C.Criterion.rules c.args.criterion.now in
    let entries = c.args.arena.entries.now in
    let items = c.args.arena.items.now in
    let e = get_or entries c.args.index c.index-arena-index.result in
    let is = read_again entries c.args.index c.index-arena-index.result c.index-arena-index.is in
    let few = c.if-entry-gt0.false in
    c.no_worse.ensures ∙ sym (one_outdone rules c.args.value.now _ items e
    (front_at entries items c.args.index e (omega arith) c.requires.entry.within is) (omega (arith, few)))
