use Rattle.std.proofs.Common.{◌≡◌, ℕ, [], ◌∷◌, ◌++◌, length, replicate, slice_index, refl, ap, ◌∙◌, arith}
use Rattle.std.proofs.lemmas.List.{length-replicate}
use Rattle.reasoning.proofs.ListLemmas.{slice_index-replicate}
use Rattle.lanes.specs.LaneLists.{points_from}
use Rattle.lanes.specs.declared.lane_lists.LaneEntry.{LaneEntry}
use Rattle.lanes.proofs.NewLemmas.{end_lists, none_words, no_points}
use Rattle.lanes.proofs.stop_lanes.StopLanes.new.Goals as goal

pub returns-clause-lists : goal.returns-clause-lists
returns-clause-lists c =
    let end : LaneEntry = record { departure = 4294967295; next = 0; front = c.none.result; tags = replicate 8 0 } in
    let is : c.push.new.self.items ≡ end ∷ [] = c.in_ok-push.ensures.items ∙ ap (λ es. es ++ end ∷ []) c.in_ok-entries.ensures.items in
    let long = ap length is in
    record {
      lists = end_lists c.push.new.self.items end is refl refl (length-replicate {A = ℕ} 8 0)
          (none_words (λ _. 0) c.none.result.times c.none.result.falls c.none.ensures);
      within = λ stop.
          let h = ap (λ hs. slice_index hs stop) c.in_ok-heads.ensures ∙ slice_index-replicate c.args.count stop in
          omega (arith, h, long);
    }

pub returns-clause-none : goal.returns-clause-none
returns-clause-none c = λ stop.
    let h = ap (λ hs. slice_index hs stop) c.in_ok-heads.ensures ∙ slice_index-replicate c.args.count stop in
    ap (points_from c.push.new.self.items) h ∙ no_points c.push.new.self.items
