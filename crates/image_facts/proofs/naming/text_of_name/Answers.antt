use Rattle.std.proofs.Common.{◌<◌, ◌+◌, ℕ, List, [], length, sym, subst, arith}
use Rattle.std.specs.Prelude.{get_or}
use Rattle.std.specs.Str.{IsUtf8}
use Rattle.image_layout.specs.Spelling.{name_list}
use Rattle.image_facts.proofs.Named.{name_there}
use Rattle.image_facts.proofs.naming.text_of_name.Goals as goal

pub unreachable-requires : goal.unreachable-requires
unreachable-requires c =
    let names = c.args.image.now.names in
    let fit = c.stops.ensures.kept.names in
    let name = get_or (name_list names) c.args.i [] in
    let within : c.args.i < length names.stops + length names.trips = omega (arith, fit.stop_names, fit.trip_names, c.requires) in
    let at = name_there names c.args.i within in
    let utf8 : IsUtf8 c.in_ok-bytes.bytes.items =
    subst (λ (bytes : List ℕ). IsUtf8 bytes) (sym (c.in_ok-bytes.ensures name at)) (fit.utf8 c.args.i name at) in
    let taken = c.in-Err.ensures.succeeds utf8 in
    absurd cc
