use Rattle.std.proofs.Common.{◌∙◌, ℕ, map, ap, arith}
use Rattle.std.specs.List.{range_with_len}
use Rattle.image_layout.specs.declared.header.Header.{Header}
use Rattle.image_layout.specs.Offsets.{header_of}
use Rattle.image_layout.specs.Shown.{connection_of, connections_of}
use Rattle.image_verifier.proofs.Unpacking.{next_one, all_made}
use Rattle.image_verifier.proofs.unpacked.unpack_connections.Goals as goal

pub loop-i-preserved : goal.loop-i-preserved
loop-i-preserved c = c.in_ok-push.ensures.items ∙ next_one (connection_of c.args.words.now) c.loop-i.i _ _ c.loop-i.invariant c.connection_at.ensures

pub returns : goal.returns
unfolding connections_of
returns c =
    all_made (λ (n : ℕ). map (connection_of c.args.words.now) (range_with_len 0 n)) c.loop-i.i (header_of c.args.words.now).connections _ c.loop-i.invariant
    (omega (arith, c.loop-i-test.false, c.loop-i.auto, ap (λ (h : Header). h.connections) c.of-count.ensures))
