use Rattle.std.proofs.Common.{length, refl, ap, arith}
use Rattle.std.specs.Global.{Vec}
use Rattle.std.proofs.lemmas.Option.{slice_get_read, slice_get_within}
use Rattle.std.proofs.lemmas.Result.{IfOk-weaker}
use Rattle.arrival_lists.specs.declared.entry.Entry.{Entry}
use Rattle.arrival_lists.proofs.Insertions.{may_between, may_join, not_reached, taken_already, taken_between}
use Rattle.arrival_lists.proofs.arrival_lists.ArrivalLists.insert_behind.Goals as goal

pub returns-then-next-time-clause-taken : goal.returns-then-next-time-clause-taken
returns-then-next-time-clause-taken c =
    let entries = c.args.self.now.entries.items in
    let at = slice_get_read entries (length entries) c.late-after.result c.index-next.result.now refl c.late-after.ensures.within c.index-next.ensures in
    taken_already c.args.self.now c.args.first c.requires.first c.args.departure c.args.time c.args.step c.requires.time c.late-after.result
    c.index-next.result.now at c.late-after.ensures.only (c.late-after.ensures.late c.index-next.result.now at) (omega (arith, c.if-next-time.true))

pub pass-requires : goal.pass-requires
pass-requires c = record {
  sound = c.requires.first.sound;
  within = slice_get_within c.args.self.now.entries.items c.args.first.head c.requires.first.is.entry c.requires.first.is.at;
}

pub put_new-requires : goal.put_new-requires
put_new-requires c =
    let entries = c.args.self.now.entries.items in
    let at = slice_get_read entries (length entries) c.late-after.result c.index-next.result.now refl c.late-after.ensures.within c.index-next.ensures in
    may_between c.args.self.now c.args.first c.requires.first c.args.departure c.args.time c.args.step c.requires.time c.late-after.result
    c.late-after.ensures c.index-next.result.now at (omega (arith, c.if-next-time.false)) c.pass.new.self
    (ap (λ (v : Vec Entry). v.items) c.in_ok-pass.ensures.entries) c.in_ok-pass.ensures.all

pub join-requires : goal.join-requires
join-requires c =
    let entries = c.args.self.now.entries.items in
    let at = slice_get_read entries (length entries) c.late-after.result c.index-next.result.now refl c.late-after.ensures.within c.index-next.ensures in
    may_join c.args.self.now c.args.first c.requires.first c.args.departure c.args.time c.args.step c.requires.time c.late-after.result
    c.late-after.ensures c.index-next.result.now at (omega (arith, c.if-next-time.false)) c.pass.new.self
    (ap (λ (v : Vec Entry). v.items) c.in_ok-pass.ensures.entries) c.in_ok-pass.ensures.all c.put_new.new.self c.in_ok-new.new c.in_ok-new.ensures.put
    (ap (λ (v : Vec Entry). v.items) c.in_ok-new.ensures.passed)

pub returns-clause-taken : goal.returns-clause-taken
returns-clause-taken c =
    let entries = c.args.self.now.entries.items in
    let at = slice_get_read entries (length entries) c.late-after.result c.index-next.result.now refl c.late-after.ensures.within c.index-next.ensures in
    IfOk-weaker c.join.result _ _
    (λ now joined. taken_between c.args.self.now c.args.first c.requires.first c.args.departure c.args.time c.args.step c.requires.time c.late-after.result
    c.late-after.ensures c.index-next.result.now at (omega (arith, c.if-next-time.false)) c.pass.new.self
    (ap (λ (v : Vec Entry). v.items) c.in_ok-pass.ensures.entries) c.in_ok-pass.ensures.all c.put_new.new.self c.in_ok-new.new c.in_ok-new.ensures.put
    (ap (λ (v : Vec Entry). v.items) c.in_ok-new.ensures.passed) c.join.new.self now c.join.ensures.more joined)
    c.join.ensures.joined

pub returns-in_err-pass-clause-known : goal.returns-in_err-pass-clause-known
returns-in_err-pass-clause-known c = λ r.
    let entries = c.args.self.now.entries.items in
    let at = slice_get_read entries (length entries) c.late-after.result c.index-next.result.now refl c.late-after.ensures.within c.index-next.ensures in
    absurd (not_reached c.args.self.now c.args.first c.requires.first c.args.departure c.args.time c.args.step c.requires.time c.late-after.result
    c.index-next.result.now at c.late-after.ensures.all (omega (arith, c.if-next-time.false)) r)

pub returns-in_err-new-clause-known : goal.returns-in_err-new-clause-known
returns-in_err-new-clause-known c = λ r.
    let entries = c.args.self.now.entries.items in
    let at = slice_get_read entries (length entries) c.late-after.result c.index-next.result.now refl c.late-after.ensures.within c.index-next.ensures in
    absurd (not_reached c.args.self.now c.args.first c.requires.first c.args.departure c.args.time c.args.step c.requires.time c.late-after.result
    c.index-next.result.now at c.late-after.ensures.all (omega (arith, c.if-next-time.false)) r)

pub returns-clause-known : goal.returns-clause-known
returns-clause-known c = λ r.
    let entries = c.args.self.now.entries.items in
    let at = slice_get_read entries (length entries) c.late-after.result c.index-next.result.now refl c.late-after.ensures.within c.index-next.ensures in
    absurd (not_reached c.args.self.now c.args.first c.requires.first c.args.departure c.args.time c.args.step c.requires.time c.late-after.result
    c.index-next.result.now at c.late-after.ensures.all (omega (arith, c.if-next-time.false)) r)
