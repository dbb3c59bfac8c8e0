use Rattle.std.proofs.Common.{◌≤◌, length, subst}
use Rattle.bags.proofs.OneInsertion.{admitted_new, linked_new, put_new, listed_new}
use Rattle.bags.proofs.insertion.put_in.Goals as goal

pub link-requires-clause-admitted : goal.link-requires-clause-admitted
link-requires-clause-admitted g c =
    admitted_new (g.C.Criterion.rules c.args.criterion.now) c.args.point c.args.entries.now.items c.insert.new.self.items
    c.args.first c.index_of-index.result c.index_of-index.result c.requires.ready c.in_ok-insert.ensures.items

pub link-requires-clause-linked : goal.link-requires-clause-linked
link-requires-clause-linked g c =
    linked_new (g.C.Criterion.rules c.args.criterion.now) c.args.point c.args.entries.now.items c.insert.new.self.items
    c.args.first c.index_of-index.result c.index_of-index.result c.requires.ready c.in_ok-insert.ensures.items
    c.index_of-index.ensures.first (subst (λ es. c.index_of-index.result ≤ length es) c.deref.ensures.value c.index_of-index.ensures.within)

pub returns-clause-put : goal.returns-clause-put
returns-clause-put g c =
    put_new (g.C.Criterion.rules c.args.criterion.now) c.args.point c.args.entries.now.items c.insert.new.self.items
    c.args.first c.index_of-index.result c.index_of-index.result c.link.new.entries.items c.in_ok-insert.ensures.items
    c.link.ensures.points (subst (λ es. c.index_of-index.result ≤ length es) c.deref.ensures.value c.index_of-index.ensures.within)

pub returns-clause-listed : goal.returns-clause-listed
returns-clause-listed g c =
    let placed = c.index_of-index.ensures in
    let is = c.deref.ensures.value in
    listed_new (g.C.Criterion.rules c.args.criterion.now) c.args.point c.args.entries.now.items c.insert.new.self.items
    c.args.first c.index_of-index.result c.index_of-index.result c.link.new.entries.items c.requires.ready
    c.in_ok-insert.ensures.items c.link.ensures.points (rw is at placed.within) (rw is at placed.before) (rw is at placed.after)
