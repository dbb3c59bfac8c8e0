use Rattle.std.proofs.Common.{◌≡◌, Option, IfSome, Some, length, refl, set, slice_get, sym, subst, arith}
use Rattle.std.proofs.lemmas.Option.{slice_get_read}
use Rattle.reasoning.proofs.BoolLemmas.{where_true, where_false}
use Rattle.reasoning.proofs.ListLemmas.{extends_none}
use Rattle.criteria.specs.Laws.{IsSecs}
use Rattle.timetable.specs.declared.network.Footpath.{Footpath}
use Rattle.scan_state.specs.SetQuery.{question}
use Rattle.scan_state.specs.Adding.{label_points}
use Rattle.scan_state.specs.Origins.{from_stop, scan_value_from, set_outs_from}
use Rattle.scan_state.proofs.Offers.{on_ok_more}
use Rattle.scan_state.proofs.OriginLemmas.{no_loop, none_started, set_extends, still_under, stop_takes}
use Rattle.scan_state.proofs.origins.OriginsAtSource.set_out_by.Given as given
use Rattle.scan_state.proofs.origins.OriginsAtSource.set_out_by.Goals.{After-index_mut}
use Rattle.scan_state.proofs.origins.OriginsAtSource.set_out_by.Goals as goal

-- what was found from the stop is there
at_stop : (g : given.Over) (c : goal.After-index_mut g) → slice_get c.args.self.now.each.items c.source_of-stop.result ≡ Some c.index_mut.result.now
at_stop g c =
    let each = c.args.self.now.each in
    let begins = c.requires.begins in
    let long = c.requires.under.0.long in
    slice_get_read each.items (length each.items) c.source_of-stop.result c.index_mut.result.now refl
    (omega (arith, begins, long, c.source_of-stop.ensures)) c.index_mut.ensures.value

pub set_out_after-requires : goal.set_out_after-requires
set_out_after-requires g c = record {
  secs = subst (λ (start : Option Footpath). IfSome start (λ walk. IsSecs walk.secs)) (sym c.in-Some.ensures.1) c.requires.secs;
  found = c.requires.under.0.under c.source_of-stop.result c.index_mut.result.now (at_stop g (goal.at.set_out_after-requires g c).After-index_mut);
  labels = c.requires.labels;
}

pub returns-in-Some : goal.returns-in-Some
returns-in-Some g c =
    let is = c.in-Some.ensures in
    let at = at_stop g (goal.at.returns-in-Some g c).After-index_mut in
    let stop = c.source_of-stop.result in
    let old = c.args.self.now in
    let a = c.index_mut.result.now in
    let b = c.set_out_after.new.self in
    on_ok_more c.set_out_after.result _ _
    (λ done. record {
      under = still_under stop old _ a b at refl c.args.asked.now.criterion done.origin.found;
      set_outs = set_extends stop old.each.items (set old.each.items stop b) a b at refl done.origin.set_outs;
      takes = λ walks. stop_takes (g.C.Criterion.rules c.args.asked.now.criterion) walks c.args.hop.now.place c.args.hop.now.connection
          (label_points c.args.labels.now) c.args.start (question c.args.asked.now.query) c.in-Some.departure stop old.each.items
          (set old.each.items stop b) a b c.source_of-stop.ensures (where_false c.is_loop.result _ _ c.if-is_loop.false c.is_loop.ensures)
          is.0 is.1 is.2 at refl (done.takes walks);
    })
    c.set_out_after.ensures

pub returns-in-None : goal.returns-in-None
returns-in-None g c =
    let q = question c.args.asked.now.query in
    let cn = c.args.hop.now.connection in
    record {
      under = λ stops was. was;
      set_outs = λ stop. extends_none (set_outs_from c.args.self.now stop);
      takes = λ walks stop. none_started (g.C.Criterion.rules c.args.asked.now.criterion) walks c.args.hop.now.place cn
          (label_points c.args.labels.now) c.args.start (from_stop q stop) (scan_value_from c.args.self.now stop) (λ may. c.in-None.ensures may.in_time);
    }

-- the start is a loop
pub returns-then-is_loop : goal.returns-then-is_loop
returns-then-is_loop g c =
    let q = question c.args.asked.now.query in
    let cn = c.args.hop.now.connection in
    record {
      under = λ stops was. was;
      set_outs = λ stop. extends_none (set_outs_from c.args.self.now stop);
      takes = λ walks stop. none_started (g.C.Criterion.rules c.args.asked.now.criterion) walks c.args.hop.now.place cn
          (label_points c.args.labels.now) c.args.start (from_stop q stop) (scan_value_from c.args.self.now stop)
          (no_loop (from_stop q stop) cn c.args.start (where_true c.is_loop.result _ _ c.if-is_loop.true c.is_loop.ensures));
    }
