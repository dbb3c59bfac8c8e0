use Rattle.std.proofs.Common.{◌≡◌, ◌<◌, ℕ, List, Contains, refl, sym, ◌∙◌, subst, arith}
use Rattle.criteria.specs.Laws.{Admits}
use Rattle.fronts.specs.declared.entry.RiddenLabel.{RiddenLabel}
use Rattle.scan_state.specs.Adding.{AreRidden}
use Rattle.scan_state.specs.Bound.{Excludes}
use Rattle.scan_state.specs.ScanState.{AreStops}
use Rattle.scan_state.specs.KeptParts.{boards_after_each}
use Rattle.scan_state.specs.InLists.{BoardsRidden, kept_by}
use Rattle.scan_state.proofs.KeptLemmas.{bags_first, bags_next}
use Rattle.scan_state.proofs.PartLemmas.{stops_counted}
use Rattle.scan_state.proofs.RideLemmas.{walks_admitted}
use Rattle.scan_state.proofs.stops.Stops.board_walks.Goals as goal

pub loop-walk_index-init : goal.loop-walk_index-init
loop-walk_index-init g c =
    let rules = g.C.Criterion.rules c.args.asked.now.criterion in
    let hop = c.args.hop.now in
    record {
      ridden = refl;
      stops = stops_counted g.C.Criterion.rules c.args.asked.now.criterion c.requires.stops;
      takes = λ labels ridden trips. bags_first rules (g.S.ConnSource.timetable c.args.source.now) hop labels
          (λ l. Excludes rules hop.bound.now l.value) c.args.walks.start (kept_by trips c.args.self.now);
    }

pub board_walk-requires : goal.board_walk-requires
board_walk-requires g c =
    let before = c.loop-walk_index.invariant in
    let walk = c.footpath_into-walk.result in
    let at = c.footpath_into-walk.ensures in
    record {
      secs = (g.met.S.ConnSource.limits c.args.source.now).walks c.loop-walk_index.walk_index walk at;
      stop = subst (λ (n : ℕ). walk.from < n) (sym (before.stops.long ∙ c.requires.stops.long))
          ((g.met.S.ConnSource.legal c.args.source.now).ends_in_range c.loop-walk_index.walk_index walk at).0;
      stops = stops_counted g.C.Criterion.rules c.args.asked.now.criterion before.stops;
      ridden = subst (λ (rs : List (RiddenLabel g.row.C-V.Denot)). (r : RiddenLabel g.row.C-V.Denot) → Contains rs r
          → Admits (g.C.Criterion.rules c.args.asked.now.criterion) r.value) (sym before.ridden) c.requires.ridden;
    }

pub loop-walk_index-preserved : goal.loop-walk_index-preserved
loop-walk_index-preserved g c =
    let rules_of = g.C.Criterion.rules in
    let criterion = c.args.asked.now.criterion in
    let rules = rules_of criterion in
    let t = g.S.ConnSource.timetable c.args.source.now in
    let hop = c.args.hop.now in
    let before = c.loop-walk_index.invariant in
    let here = c.in_ok-board_walk.ensures in
    record {
      ridden = here.ridden ∙ before.ridden;
      stops = subst (λ (n : ℕ). AreStops rules_of criterion n c.board_walk.new.self) before.stops.long here.stops;
      takes = λ labels ridden trips. bags_next rules t hop labels (λ l. Excludes rules hop.bound.now l.value) c.args.walks.start
          c.loop-walk_index.walk_index c.footpath_into-walk.result c.loop-walk_index.auto.walk_index c.footpath_into-walk.ensures
          (walks_admitted rules labels (g.met.C.Criterion.laws criterion) t (g.met.S.ConnSource.limits c.args.source.now) c.args.self.now.ridden.items ridden
          c.requires.ridden)
          (before.takes labels ridden trips)
          (here.takes labels (subst (λ (rs : List (RiddenLabel g.row.C-V.Denot)). AreRidden rules labels rs) (sym before.ridden) ridden) trips);
    }

pub returns : goal.returns
returns g c =
    let over = c.loop-walk_index-test.false in
    let within = c.loop-walk_index.auto.walk_index-end c.requires.walks.order in
    let at_end : c.loop-walk_index.walk_index ≡ c.args.walks.end = omega arith in
    subst (λ (n : ℕ). BoardsRidden g.C.Criterion.rules c.args.asked.now.criterion (boards_after_each (g.C.Criterion.rules c.args.asked.now.criterion)
    (g.S.ConnSource.timetable c.args.source.now) c.args.walks.start n c.args.hop.now) c.args.self.now c.loop-walk_index.self) at_end
    c.loop-walk_index.invariant
