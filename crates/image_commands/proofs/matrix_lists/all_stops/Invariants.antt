use Rattle.std.proofs.Common.{◌≡◌, ◌∷◌, []}
use Rattle.std.specs.List.{AllZip, range_with_len}
use Rattle.image_commands.proofs.matrix_lists.all_stops.Given as goal

abbrev pub invariant-loop-stop : goal.invariant-loop-stop
invariant-loop-stop l = AllZip (λ stop set. set.items ≡ stop ∷ []) (range_with_len 0 l.stop) l.all.items
