use Rattle.std.proofs.Common.{◌∙◌, ℕ, ◌+◌, map, ap, arith}
use Rattle.std.specs.Prelude.{string_bytes}
use Rattle.std.specs.List.{range_with_len}
use Rattle.image_layout.specs.declared.header.Header.{Header}
use Rattle.image_layout.specs.Offsets.{header_of}
use Rattle.image_layout.specs.Shown.{name_of, trip_name_of}
use Rattle.image_verifier.proofs.Unpacking.{next_one, all_made}
use Rattle.image_verifier.proofs.unpacked.unpack_trip_names.Goals as goal
use Rattle.image_layout.proofs.BackNames.{label_is}

pub loop-trip-preserved : goal.loop-trip-preserved
loop-trip-preserved c =
    let w = c.args.words.now in
    let trip = c.loop-trip.trip in
    let name = c.in_ok-unpack_name.ensures ∙ ap (λ (h : Header). name_of w (h.stops + trip)) c.of-header.ensures in
    c.in_ok-push.ensures.items
    ∙ next_one (trip_name_of w) trip _ _ c.loop-trip.invariant
    (label_is (string_bytes c.in_ok-unpack_name.field-0) c.day_at.result c.repeat_at.result (trip_name_of w trip)
    name c.day_at.ensures c.repeat_at.ensures)

pub returns : goal.returns
returns c =
    all_made (λ (n : ℕ). map (trip_name_of c.args.words.now) (range_with_len 0 n)) c.loop-trip.trip (header_of c.args.words.now).trips _ c.loop-trip.invariant
    (omega (arith, c.loop-trip-test.false, c.loop-trip.auto, ap (λ (h : Header). h.trips) c.of-header.ensures))
