use Rattle.std.proofs.Common.{ℕ}
use Rattle.fronts.specs.Front.{Extends}
use Rattle.scan_state.specs.SetQuery.{asked_from, question}
use Rattle.scan_state.specs.Adding.{label_points, each_of, IsTried, settings_out_by}
use Rattle.scan_state.specs.Parts.{SourceTakes}
use Rattle.scan_state.proofs.at_source.AtSource.set_out.Given as goal

abbrev pub invariant-loop-walk_index : goal.invariant-loop-walk_index
invariant-loop-walk_index g l =
    let rules = g.C.Criterion.rules l.asked.criterion in
    let t = g.S.ConnSource.timetable l.source in
    record {
      under : g.Self.AtSource.IsUnder l.asked.criterion t.stops l.self;
      set_outs : (index : ℕ) → Extends (g.Self.AtSource.kept l.fn.self index).set_outs (g.Self.AtSource.kept l.self index).set_outs;
      takes : (index : ℕ) → SourceTakes rules t.footpaths (λ tags. each_of (IsTried t.footpaths l.begin l.walk_index)
          (settings_out_by rules tags l.hop.place l.hop.connection (asked_from g.Self.AtSource.sources (question l.asked.query) index) (label_points l.labels)))
          (g.Self.AtSource.kept l.fn.self index) (g.Self.AtSource.kept l.self index);
    }
