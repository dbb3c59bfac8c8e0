use Rattle.std.proofs.Common.{◌≡◌, Some, length, refl, slice_get, ◌∙◌, arith}
use Rattle.std.proofs.lemmas.Option.{slice_get_read}
use Rattle.scan_state.specs.ScanRecords.{IsExit}
use Rattle.by_arrival.proofs.ByArrivalLemmas.{not_offered, relabelled}
use Rattle.by_arrival.proofs.by_arrival.ByArrival.offer.Goals.{After-index}
use Rattle.by_arrival.proofs.by_arrival.ByArrival.offer.Goals as goal

-- the label that the trip has
at_trip : (c : After-index) → slice_get c.args.self.now.labels.items c.args.trip ≡ Some c.index.result.now
at_trip c =
    slice_get_read c.args.self.now.labels.items (length c.args.self.now.labels.items) c.args.trip c.index.result.now refl c.requires.trip c.index.ensures

pub returns-then-time-index : goal.returns-then-time-index
returns-then-time-index c =
    not_offered c.args.self.now c.requires.are c.args.trip c.index.result.now (at_trip (goal.at.returns-then-time-index c).After-index) c.args.time
    c.requires.time (λ tags. IsExit tags c.args.exit) (omega (arith, c.if-time-index.true))

pub returns : goal.returns
returns c =
    relabelled c.args.self.now c.requires.are c.args.trip c.index.result.now (at_trip (goal.at.returns c).After-index) c.args.time c.requires.time c.args.exit
    c.append.new.items c.in_ok-append.ensures.added c.in_ok-tag.tag (c.in_ok-tag.ensures ∙ c.len.ensures ∙ c.args.self.now.exits.ok.0)
    (omega (arith, c.if-time-index.false))
