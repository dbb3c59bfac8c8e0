use Rattle.std.proofs.Common.{◌<◌, ◌≤◌, ◌∙◌, length, arith}
use Rattle.std.proofs.lemmas.List.{take_all}
use Rattle.image_verifier.proofs.Unpacking.{next_taken}
use Rattle.image_facts.proofs.naming.bytes_of_name.Goals as goal

pub name_byte-requires-clause-byte : goal.name_byte-requires-clause-byte
name_byte-requires-clause-byte c = λ name at. omega (arith, c.loop-j-test.true, c.name_len-len.ensures name at)

pub loop-j-preserved : goal.loop-j-preserved
loop-j-preserved c = λ name at.
    let lt : c.loop-j.j < length name = omega (arith, c.loop-j-test.true, c.name_len-len.ensures name at) in
    c.in_ok-push.ensures.items ∙ next_taken name _ c.loop-j.j _ lt (c.loop-j.invariant name at) (c.name_byte.ensures name at)

pub returns : goal.returns
returns c = λ name at.
    let all : length name ≤ c.loop-j.j = omega (arith, c.loop-j-test.false, c.name_len-len.ensures name at) in
    c.loop-j.invariant name at ∙ take_all c.loop-j.j name all
