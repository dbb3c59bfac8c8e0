use Rattle.std.proofs.Common.{◌≡◌, [], ◌∙◌, subst, arith}
use Rattle.std.proofs.lemmas.Bool.{ltb-false}
use Rattle.std.proofs.lemmas.List.{get_or_default}
use Rattle.lanes.specs.LaneLists.{points_from}
use Rattle.lanes.proofs.NewLemmas.{no_points}
use Rattle.lanes.proofs.stop_lanes.StopLanes.has_points.Goals as goal

pub returns : goal.returns
returns c = λ none.
    let self = c.args.self.now in
    let head = c.index.ensures ∙ get_or_default self.heads.items c.args.stop c.index.result.now 0 c.requires in
    let le = ltb-false 0 c.index.result.now none in
    subst (λ n. points_from self.entries.items n ≡ []) (omega (arith, le, head)) (no_points self.entries.items)
