use Rattle.std.proofs.Common.{◌≡◌, ◌<◌, ◌∙◌, [], ◌∷◌, ℕ, sym, subst, arith}
use Rattle.scan_state.specs.Adding.{StandsBetween, boardings_by, each_of}
use Rattle.by_arrival.specs.ByArrival.{BoardsByArrival, arrival_rules, ridden_point, value_by_arrival}
use Rattle.by_arrival.proofs.ByArrivalLemmas.{like_then, ridden_alone, still_like}
use Rattle.scan_state.proofs.KeptLemmas.{bags_first, bags_next}
use Rattle.by_arrival.proofs.by_arrival.ByArrival.board_walks.Goals as goal

pub loop-walk_index-init : goal.loop-walk_index-init
loop-walk_index-init g c =
    let t = g.S.ConnSource.timetable c.args.source.now in
    record {
      like = still_like c.args.self.now c.requires.are;
      takes = bags_first arrival_rules t c.args.hop.now (ridden_point c.args.ride ∷ []) (λ _. ⊥) c.args.walks.start (value_by_arrival c.args.self.now);
    }

pub board_walk-requires : goal.board_walk-requires
board_walk-requires g c =
    let walk = c.footpath_into-walk.result in
    let at = c.footpath_into-walk.ensures in
    let like = c.loop-walk_index.invariant.like in
    record {
      are = like.are;
      secs = (g.met.S.ConnSource.limits c.args.source.now).walks c.loop-walk_index.walk_index walk at;
      stop = subst (λ (n : ℕ). walk.from < n) (sym (like.stops ∙ c.requires.stops_are))
          ((g.met.S.ConnSource.legal c.args.source.now).ends_in_range c.loop-walk_index.walk_index walk at).0;
      time = c.requires.time;
    }

pub loop-walk_index-preserved : goal.loop-walk_index-preserved
loop-walk_index-preserved g c =
    let t = g.S.ConnSource.timetable c.args.source.now in
    let before = c.loop-walk_index.invariant in
    let here = c.in_ok-board_walk.ensures in
    record {
      like = like_then c.args.self.now c.loop-walk_index.self c.board_walk.new.self before.like here.like;
      takes = bags_next arrival_rules t c.args.hop.now (ridden_point c.args.ride ∷ []) (λ _. ⊥) c.args.walks.start c.loop-walk_index.walk_index
          c.footpath_into-walk.result c.loop-walk_index.auto.walk_index c.footpath_into-walk.ensures (ridden_alone t c.args.ride c.requires.time)
          before.takes here.takes;
    }

pub returns : goal.returns
returns g c =
    let t = g.S.ConnSource.timetable c.args.source.now in
    let over = c.loop-walk_index-test.false in
    let within = c.loop-walk_index.auto.walk_index-end c.requires.walks.order in
    let at_end : c.loop-walk_index.walk_index ≡ c.args.walks.end = omega arith in
    subst (λ (n : ℕ). BoardsByArrival (λ walks. walks ≡ t.footpaths) (λ _. ⊥)
    (λ stop tags. each_of (StandsBetween t.footpaths c.args.walks.start n)
    (boardings_by arrival_rules tags c.args.hop.now.place c.args.hop.now.connection stop (ridden_point c.args.ride ∷ []))) c.args.self.now
    c.loop-walk_index.self) at_end c.loop-walk_index.invariant
