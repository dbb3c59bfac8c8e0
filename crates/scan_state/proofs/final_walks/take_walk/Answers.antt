use Rattle.std.proofs.Common.{map, sym, ◌∙◌, subst}
use Rattle.reasoning.proofs.BoolLemmas.{where_true, where_false}
use Rattle.std.specs.Prelude.{Option}
use Rattle.scan_state.specs.ScanState.{final_walk_in}
use Rattle.scan_state.specs.Nearest.{Replaces}
use Rattle.scan_state.specs.declared.final_walks.FinalWalk.{FinalWalk}
use Rattle.scan_state.proofs.FinalWalkLemmas.{not_taken, taken_in, word_at}
use Rattle.scan_state.proofs.final_walks.take_walk.Goals as goal

pub returns-then-not-replaces : goal.returns-then-not-replaces
returns-then-not-replaces c =
    let f = c.args.walk.now in
    let entries = c.args.entries.now.items in
    let says = word_at entries f.from c.index-entry.result.now c.requires.from c.index-entry.ensures ∙ sym c.final_walk_of-old.ensures in
    let stays = where_false c.replaces.result (Replaces c.final_walk_of-old.result f) _ c.if-not-replaces.true c.replaces.ensures in
    not_taken f (map final_walk_in entries) (λ r. stays (subst (λ (w : Option FinalWalk). Replaces w f) says r))

pub returns : goal.returns
returns c =
    let f = c.args.walk.now in
    let entries = c.args.entries.now.items in
    let says = word_at entries f.from c.index-entry.result.now c.requires.from c.index-entry.ensures ∙ sym c.final_walk_of-old.ensures in
    let is = where_true c.replaces.result (Replaces c.final_walk_of-old.result f) _ c.if-not-replaces.false c.replaces.ensures in
    taken_in f entries c.requires.from c.requires.secs (subst (λ (w : Option FinalWalk). Replaces w f) (sym says) is)
