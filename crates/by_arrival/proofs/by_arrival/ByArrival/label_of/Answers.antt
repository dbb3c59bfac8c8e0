use Rattle.std.proofs.Common.{◌≡◌, ◌+◌, ◌-◌, Some, length, refl, slice_get, sym, ap, ◌∙◌, take, drop, arith}
use Rattle.std.proofs.lemmas.Option.{slice_get_read}
use Rattle.by_arrival.proofs.ByArrivalLemmas.{has_label, labels_are, lacks_label, part_one}
use Rattle.by_arrival.proofs.by_arrival.ByArrival.label_of.Goals.{After-index}
use Rattle.by_arrival.proofs.by_arrival.ByArrival.label_of.Goals as goal

at_trip : (c : After-index) → slice_get c.args.self.now.labels.items c.args.trip ≡ Some c.index.result.now
at_trip c =
    let labels = c.args.self.now.labels.items in
    slice_get_read labels (length labels) c.args.trip c.index.result.now refl c.requires c.index.ensures

pub returns-then-index-lt-NEVER : goal.returns-then-index-lt-NEVER
returns-then-index-lt-NEVER c =
    let at = at_trip (goal.at.returns-then-index-lt-NEVER c).After-index in
    let trip = c.args.trip in
    let labels = c.args.self.now.labels.items in
    let one : (trip + 1) - trip ≡ 1 = omega arith in
    ap (λ n. take n (drop trip c.deref.result.now)) one
    ∙ ap (λ ls. take 1 (drop trip ls)) c.deref.ensures.value
    ∙ part_one labels trip c.index.result.now at
    ∙ sym (labels_are c.args.self.now trip c.index.result.now at ∙ has_label c.index.result.now (omega (arith, c.if-index-lt-NEVER.true)))

pub returns : goal.returns
returns c =
    let at = at_trip (goal.at.returns c).After-index in
    let trip = c.args.trip in
    let none : trip - trip ≡ 0 = omega arith in
    ap (λ n. take n (drop trip c.deref-2.result.now)) none
    ∙ sym (labels_are c.args.self.now trip c.index.result.now at ∙ lacks_label c.index.result.now (omega (arith, c.if-index-lt-NEVER.false)))
