use Rattle.std.proofs.Common.{Option, IfSome, sym, subst}
use Rattle.std.proofs.lemmas.Result.{on_ok_weaker}
use Rattle.reasoning.proofs.BoolLemmas.{where_true, where_false}
use Rattle.reasoning.proofs.ListLemmas.{extends_none}
use Rattle.criteria.specs.Laws.{IsSecs}
use Rattle.timetable.specs.declared.network.Footpath.{Footpath}
use Rattle.scan_state.specs.SetQuery.{question}
use Rattle.scan_state.specs.Adding.{label_points}
use Rattle.scan_state.specs.Origins.{kept_of}
use Rattle.scan_state.proofs.OriginLemmas.{none_started, started_takes}
use Rattle.scan_state.proofs.origin.OriginAtSource.set_out_by.Goals as goal

pub set_out_after-requires : goal.set_out_after-requires
set_out_after-requires g c = record {
  secs = subst (λ (start : Option Footpath). IfSome start (λ walk. IsSecs walk.secs)) (sym c.in-Some.ensures.1) c.requires.secs;
  found = c.requires.under;
  labels = c.requires.labels;
}

pub returns-in-Some : goal.returns-in-Some
returns-in-Some g c =
    let is = c.in-Some.ensures in
    let from = where_true c.is_from_source.result _ _ c.if-not-is_from_source.false c.is_from_source.ensures in
    on_ok_weaker c.set_out_after.result
    (λ done. record {
      under = λ stops was. done.origin.found;
      set_outs = λ index. done.origin.set_outs;
      takes = λ walks index. started_takes (g.C.Criterion.rules c.args.asked.now.criterion) walks c.args.hop.now.place c.args.hop.now.connection
          (label_points c.args.labels.now) c.args.start (question c.args.asked.now.query) c.in-Some.departure (kept_of c.args.self.now)
          (kept_of c.set_out_after.new.self) (record { starts = from; in_time = is.0 }) is.1 is.2 (done.takes walks);
    })
    c.set_out_after.ensures

pub returns-in-None : goal.returns-in-None
returns-in-None g c = record {
  under = λ stops was. was;
  set_outs = λ index. extends_none c.args.self.now.set_outs.items;
  takes = λ walks index. none_started (g.C.Criterion.rules c.args.asked.now.criterion) walks c.args.hop.now.place c.args.hop.now.connection
      (label_points c.args.labels.now) c.args.start (question c.args.asked.now.query) (kept_of c.args.self.now) (λ may. c.in-None.ensures may.in_time);
}

-- the start isn't from a source
pub returns-then-not-is_from_source : goal.returns-then-not-is_from_source
returns-then-not-is_from_source g c =
    let not_from = where_false c.is_from_source.result _ _ c.if-not-is_from_source.true c.is_from_source.ensures in
    record {
      under = λ stops was. was;
      set_outs = λ index. extends_none c.args.self.now.set_outs.items;
      takes = λ walks index. none_started (g.C.Criterion.rules c.args.asked.now.criterion) walks c.args.hop.now.place c.args.hop.now.connection
          (label_points c.args.labels.now) c.args.start (question c.args.asked.now.query) (kept_of c.args.self.now) (λ may. not_from may.starts);
    }
