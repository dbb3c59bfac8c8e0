use Rattle.std.proofs.Common.{◌<◌, ◌≤◌, ◌∙◌, length, arith}
use Rattle.std.proofs.lemmas.List.{take_all}
use Rattle.image_layout.specs.Shown.{name_of}
use Rattle.image_verifier.proofs.Unpacking.{next_taken}
use Rattle.image_verifier.proofs.unpacked.unpack_name_bytes.Goals as goal

pub loop-i-preserved : goal.loop-i-preserved
loop-i-preserved c =
    let name = name_of c.args.words.now c.args.name in
    let lt : c.loop-i.i < length name = omega (arith, c.loop-i-test.true, c.name_len_at-len.ensures) in
    c.in_ok-push.ensures.items ∙ next_taken name _ c.loop-i.i _ lt c.loop-i.invariant c.name_byte_at.ensures

pub returns : goal.returns
returns c =
    let name = name_of c.args.words.now c.args.name in
    let all : length name ≤ c.loop-i.i = omega (arith, c.loop-i-test.false, c.name_len_at-len.ensures) in
    c.loop-i.invariant ∙ take_all c.loop-i.i name all
