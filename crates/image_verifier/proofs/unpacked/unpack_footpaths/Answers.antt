use Rattle.std.proofs.Common.{◌∙◌, ℕ, List, ◌++◌, sym, ap, arith}
use Rattle.std.specs.List.{flat_map, range_with_len}
use Rattle.timetable.specs.declared.network.Footpath.{Footpath}
use Rattle.image_layout.specs.declared.header.Header.{Header}
use Rattle.image_layout.specs.Offsets.{header_of}
use Rattle.image_layout.specs.Shown.{footpaths_into, footpaths_of}
use Rattle.image_verifier.proofs.Unpacking.{next_piece, all_made}
use Rattle.image_verifier.proofs.unpacked.unpack_footpaths.Goals as goal

pub loop-stop-preserved : goal.loop-stop-preserved
loop-stop-preserved c =
    let w = c.args.words.now in
    c.in_ok-unpack_walks_into.ensures
    ∙ ap (λ (fs : List Footpath). fs ++ footpaths_into w c.loop-stop.stop) c.loop-stop.invariant
    ∙ sym (next_piece (footpaths_into w) c.loop-stop.stop)

pub returns : goal.returns
unfolding footpaths_of
returns c =
    all_made (λ (n : ℕ). flat_map (footpaths_into c.args.words.now) (range_with_len 0 n)) c.loop-stop.stop
    (header_of c.args.words.now).stops _ c.loop-stop.invariant
    (omega (arith, c.loop-stop-test.false, c.loop-stop.auto, ap (λ (h : Header). h.stops) c.of-header.ensures))
