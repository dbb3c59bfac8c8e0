use Rattle.std.proofs.Common.{◌∙◌, arith, map, sym}
use Rattle.std.proofs.lemmas.List.{length-map}
use Rattle.image_files.proofs.NameParts.{all_parts, no_part, part_more}
use Rattle.image_files.proofs.names.joined.Goals as goal

pub loop-index-init : goal.loop-index-init
loop-index-init c = c.new-text.ensures.bytes ∙ sym no_part

pub loop-index-preserved : goal.loop-index-preserved
loop-index-preserved c =
    part_more (λ part. part.now) c.args.parts.now c.loop-index.index _ _ _ (omega arith) c.loop-index.invariant c.in_ok-put_part.ensures

pub returns : goal.returns
returns c = all_parts (map (λ part. part.now) c.args.parts.now) c.loop-index.index _
    (let long = length-map c.args.parts.now (λ part. part.now) in omega (arith, long)) c.loop-index.invariant
