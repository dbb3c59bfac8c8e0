use Rattle.std.proofs.Common.{◌≡◌, ◌<◌, ℕ, false, sym, ◌∙◌, subst, arith}
use Rattle.std.proofs.lemmas.Bool.{true≢false}
use Rattle.reasoning.proofs.ListLemmas.{extends_none, extends_on}
use Rattle.timetable.specs.declared.network.Connection.{Connection}
use Rattle.scan_state.specs.SetQuery.{asked_from, question}
use Rattle.scan_state.specs.Matching.{from_to}
use Rattle.scan_state.specs.ScanRecords.{scan_records, spelling_of}
use Rattle.scan_state.specs.Steps.{TakesIn, settings_out}
use Rattle.scan_state.specs.Adding.{label_points, each_of, IsTried, settings_out_by}
use Rattle.scan_state.proofs.ScanRecordLemmas.{grows_on, set_outs_grow}
use Rattle.scan_state.proofs.BoardLemmas.{starts_first, starts_next, settings_out_taken, alone_taken}
use Rattle.scan_state.proofs.Offers.{takes_none}
use Rattle.scan_state.proofs.at_source.AtSource.set_out.Goals as goal

-- nobody may get on
pub returns-then-not-hop : goal.returns-then-not-hop
returns-then-not-hop g c =
    let rules = g.C.Criterion.rules c.args.asked.now.criterion in
    let t = g.S.ConnSource.timetable c.args.source.now in
    let hop = c.args.hop.now in
    let kept = g.Self.AtSource.kept c.args.self.now in
    let closed = subst (λ (x : Connection). x.board ≡ false) c.requires.hop.stands.is c.if-not-hop.true in
    record {
      under = c.requires.under;
      set_outs = λ index. extends_none (kept index).set_outs;
      takes = λ index exits steps before all ext_before ext.
          takes_none rules (settings_out rules t (asked_from g.Self.AtSource.sources (question c.args.asked.now.query) index)
          (from_to (spelling_of t.footpaths before) (spelling_of t.footpaths all)) hop.place (label_points c.args.labels.now)) (kept index).found
          (λ way may. true≢false (sym may.boards ∙ closed));
    }

-- of a start it can be looked up whether it is from a source
pub set_out_by-requires : goal.set_out_by-requires
set_out_by-requires g c = record {
  stops = (g.S.ConnSource.timetable c.args.source.now).stops;
  under = c.requires.under;
  begins = c.requires.hop.begins;
  knows = record {
    here = c.requires.hop.access.here;
    within = tt;
    says = λ stop lead at. (c.requires.hop.starts.each stop lead at).here;
  };
  secs = tt;
  labels = c.requires.labels;
}

pub set_out_by-requires-in-loop-walk_index : goal.set_out_by-requires-in-loop-walk_index
set_out_by-requires-in-loop-walk_index g c =
    let walk = c.footpath_into-walk.result in
    let at = c.footpath_into-walk.ensures in
    let begins = ((g.met.S.ConnSource.legal c.args.source.now).ends_in_range c.loop-walk_index.walk_index walk at).0 in
    record {
      stops = (g.S.ConnSource.timetable c.args.source.now).stops;
      under = c.loop-walk_index.invariant.under;
      begins = begins;
      knows = record {
        here = c.requires.hop.access.here;
        within = subst (λ (n : ℕ). walk.from < n) (sym c.requires.hop.starts.long) begins;
        says = λ stop lead at. (c.requires.hop.starts.each stop lead at).here;
      };
      secs = (g.met.S.ConnSource.limits c.args.source.now).walks c.loop-walk_index.walk_index walk at;
      labels = c.requires.labels;
    }

-- no footpath leads there from a source
pub returns-then-not-is_led : goal.returns-then-not-is_led
returns-then-not-is_led g c =
    let t = g.S.ConnSource.timetable c.args.source.now in
    let hop = c.args.hop.now in
    let done = c.in_ok-set_out_by.ensures in
    record {
      under = done.under t.stops c.requires.under;
      set_outs = done.set_outs;
      takes = λ index exits steps before all ext_before ext.
          alone_taken (g.C.Criterion.rules c.args.asked.now.criterion) t
          (from_to (spelling_of t.footpaths before) (spelling_of t.footpaths all)) hop.place
          (asked_from g.Self.AtSource.sources (question c.args.asked.now.query) index) (label_points c.args.labels.now)
          (g.Self.AtSource.kept c.args.self.now index).found (g.Self.AtSource.kept c.set_out_by.new.self index).found
          hop.connection c.requires.hop.stands.is c.if-not-hop.false (c.is_led.ensures c.if-not-is_led.true t c.requires.hop index)
          (done.takes t.footpaths index exits steps before all ext_before ext);
    }

pub loop-walk_index-init : goal.loop-walk_index-init
loop-walk_index-init g c =
    let rules = g.C.Criterion.rules c.args.asked.now.criterion in
    let t = g.S.ConnSource.timetable c.args.source.now in
    let done = c.in_ok-set_out_by.ensures in
    record {
      under = done.under t.stops c.requires.under;
      set_outs = done.set_outs;
      takes = λ index exits steps before all ext_before ext. starts_first rules t.footpaths
          (settings_out_by rules (from_to (spelling_of t.footpaths before) (spelling_of t.footpaths all)) c.args.hop.now.place c.args.hop.now.connection
          (asked_from g.Self.AtSource.sources (question c.args.asked.now.query) index) (label_points c.args.labels.now)) c.walks_into-begin.result.0
          (g.Self.AtSource.kept c.args.self.now index).found (g.Self.AtSource.kept c.set_out_by.new.self index).found
          (done.takes t.footpaths index exits steps before all ext_before ext);
    }

pub loop-walk_index-preserved : goal.loop-walk_index-preserved
loop-walk_index-preserved g c =
    let t = g.S.ConnSource.timetable c.args.source.now in
    let inv = c.loop-walk_index.invariant in
    let done = c.in_ok-set_out_by-2.ensures in
    let kept = g.Self.AtSource.kept in
    record {
      under = done.under t.stops inv.under;
      set_outs = λ index. extends_on (kept c.args.self.now index).set_outs (kept c.loop-walk_index.self index).set_outs
          (kept c.set_out_by-in-loop-walk_index.new.self index).set_outs (inv.set_outs index) (done.set_outs index);
      takes = λ index exits steps before all ext_before ext.
          let old = kept c.args.self.now index in
          let mid = kept c.loop-walk_index.self index in
          let new = kept c.set_out_by-in-loop-walk_index.new.self index in
          let s0 = scan_records exits steps old.set_outs in
          let s1 = scan_records exits steps mid.set_outs in
          let s2 = scan_records exits steps new.set_outs in
          starts_next (g.C.Criterion.rules c.args.asked.now.criterion) (g.met.C.Criterion.laws c.args.asked.now.criterion) t
          (g.met.S.ConnSource.limits c.args.source.now) (label_points c.args.labels.now) c.requires.labels
          (from_to (spelling_of t.footpaths before) (spelling_of t.footpaths all)) c.args.hop.now.place c.args.hop.now.connection
          (asked_from g.Self.AtSource.sources (question c.args.asked.now.query) index) c.walks_into-begin.result.0 c.loop-walk_index.walk_index
          c.footpath_into-walk.result old.found mid.found new.found c.loop-walk_index.auto.walk_index c.footpath_into-walk.ensures
          (inv.takes index exits steps before all ext_before
          (grows_on s1 s2 all (set_outs_grow exits steps mid.set_outs new.set_outs (done.set_outs index)) ext))
          (done.takes t.footpaths index exits steps before all
          (grows_on before s0 s1 ext_before (set_outs_grow exits steps old.set_outs mid.set_outs (inv.set_outs index))) ext);
    }

pub returns : goal.returns
returns g c =
    let rules = g.C.Criterion.rules c.args.asked.now.criterion in
    let t = g.S.ConnSource.timetable c.args.source.now in
    let hop = c.args.hop.now in
    let labels = label_points c.args.labels.now in
    let begin = c.walks_into-begin.result.0 in
    let over = c.loop-walk_index-test.false in
    let within = c.loop-walk_index.auto.walk_index-end c.walks_into-begin.ensures.order in
    let at_end : c.loop-walk_index.walk_index ≡ c.walks_into-begin.result.1 = omega arith in
    let inv = c.loop-walk_index.invariant in
    record {
      under = inv.under;
      set_outs = inv.set_outs;
      takes = λ index exits steps before all ext_before ext.
          let q = asked_from g.Self.AtSource.sources (question c.args.asked.now.query) index in
          let tags = from_to (spelling_of t.footpaths before) (spelling_of t.footpaths all) in
          let old = (g.Self.AtSource.kept c.args.self.now index).found in
          let new = (g.Self.AtSource.kept c.loop-walk_index.self index).found in
          settings_out_taken rules t tags hop.place hop.connection c.requires.hop.stands.is c.if-not-hop.false begin
          c.walks_into-begin.result.1 c.walks_into-begin.ensures.exact labels q old new
          (subst (λ (n : ℕ). TakesIn rules (each_of (IsTried t.footpaths begin n) (settings_out_by rules tags hop.place hop.connection q labels))
          old new) at_end (inv.takes index exits steps before all ext_before ext));
    }
