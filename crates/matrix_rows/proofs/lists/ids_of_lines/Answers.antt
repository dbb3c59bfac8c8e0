use Rattle.std.proofs.Common.{◌∙◌, ap, map}
use Rattle.matrix_rows.proofs.SetLemmas.{all_lines, next_ids}
use Rattle.matrix_rows.proofs.lists.ids_of_lines.Goals as goal

pub loop-line-init : goal.loop-line-init
loop-line-init c = ap (map (λ id. id.now)) c.new-ids.ensures.items

pub loop-line-preserved : goal.loop-line-preserved
loop-line-preserved c =
    next_ids (λ line. line.now) (λ id. id.now) c.args.listed.now c.loop-line.line-index _ c.loop-line.ids.items c.deref.result.now
    c.extend_from_slice.new.self.items c.loop-line-test.true c.loop-line.invariant
    (ap (map (λ id. id.now)) c.deref.ensures.value ∙ c.in_ok-more.ensures) c.in_ok-extend_from_slice.ensures.items

pub returns : goal.returns
returns c = all_lines (λ line. line.now) c.args.listed.now c.loop-line.line-index _ c.loop-line-test.false c.loop-line.invariant
