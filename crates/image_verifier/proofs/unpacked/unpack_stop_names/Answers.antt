use Rattle.std.proofs.Common.{◌∙◌, ℕ, map, ap, arith}
use Rattle.std.specs.Prelude.{string_bytes}
use Rattle.std.specs.List.{range_with_len}
use Rattle.image_layout.specs.declared.header.Header.{Header}
use Rattle.image_layout.specs.Offsets.{header_of}
use Rattle.image_layout.specs.Shown.{name_of}
use Rattle.image_verifier.proofs.Unpacking.{next_shown, all_made}
use Rattle.image_verifier.proofs.unpacked.unpack_stop_names.Goals as goal

pub loop-stop-preserved : goal.loop-stop-preserved
loop-stop-preserved c =
    ap (λ ns. map string_bytes ns) c.in_ok-push.ensures.items
    ∙ next_shown string_bytes (name_of c.args.words.now) c.loop-stop.stop _ _ c.loop-stop.invariant
    c.in_ok-unpack_name.ensures

pub returns : goal.returns
returns c =
    all_made (λ (n : ℕ). map (name_of c.args.words.now) (range_with_len 0 n)) c.loop-stop.stop (header_of c.args.words.now).stops _ c.loop-stop.invariant
    (omega (arith, c.loop-stop-test.false, c.loop-stop.auto, ap (λ (h : Header). h.stops) c.of.ensures))
