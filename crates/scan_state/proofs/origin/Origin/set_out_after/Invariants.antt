use Rattle.std.proofs.Common.{List}
use Rattle.bags.specs.Bag.{points_of}
use Rattle.scan_state.specs.Values.{started}
use Rattle.timetable.specs.declared.network.Footpath.{Footpath}
use Rattle.fronts.specs.declared.entry.Step.{Step}
use Rattle.scan_state.specs.Parts.{ChangesOrigin}
use Rattle.scan_state.specs.ScanRecords.{scan_records}
use Rattle.scan_state.specs.Adding.{label_points, Takes, set_out_way, each_of, StandsBefore}
use Rattle.scan_state.specs.declared.scan_records.Exit.{Exit}
use Rattle.scan_state.proofs.origin.Origin.set_out_after.Given as goal

abbrev pub invariant-loop-k : goal.invariant-loop-k
invariant-loop-k g l =
    let rules = g.C.Criterion.rules l.asked.criterion in
    record {
      origin : ChangesOrigin l.asked.criterion l.fn.self l.self;
      takes : (walks : List Footpath) (exits : List Exit) (steps : List Step)
          → Takes rules walks (scan_records exits steps l.fn.self.set_outs.items) (scan_records exits steps l.self.set_outs.items)
          (λ tags. each_of (StandsBefore (label_points l.labels) l.k)
          (λ label. set_out_way tags l.departure.time (started rules l.departure.start (rules.ride label.value))
          (record { start = l.departure.start; first = l.place; label = label.tag }))) (points_of l.fn.self.found)
          (points_of l.self.found);
    }
