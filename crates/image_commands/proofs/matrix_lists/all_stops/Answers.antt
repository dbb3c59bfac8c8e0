use Rattle.std.proofs.Common.{◌≡◌, ◌+◌, ◌++◌, ◌∷◌, ◌∙◌, [], ℕ, List, suc, ap, subst, sym, arith}
use Rattle.std.specs.Global.{Vec}
use Rattle.std.specs.List.{AllZip, range_with_len}
use Rattle.std.proofs.lemmas.Slice.Zip.{all_zipped_more}
use Rattle.image_commands.proofs.Ranges.{range_more}
use Rattle.image_commands.proofs.matrix_lists.all_stops.Goals as goal

abbrev Of : ℕ → Vec ℕ → Type 0
Of stop set = set.items ≡ stop ∷ []

pub loop-stop-init : goal.loop-stop-init
loop-stop-init c = subst (AllZip Of []) (sym c.in_ok-all.ensures.items) tt

pub loop-stop-preserved : goal.loop-stop-preserved
loop-stop-preserved c =
    let stop = c.loop-stop.stop in
    let set = c.in_ok-set.set in
    let zero : 0 + stop ≡ stop = omega arith in
    let next : suc stop ≡ stop + 1 = omega arith in
    let more : range_with_len 0 stop ++ stop ∷ [] ≡ range_with_len 0 (stop + 1) =
    ap (λ (n : ℕ). range_with_len 0 stop ++ n ∷ []) (sym {A = ℕ} zero) ∙ sym {A = List ℕ} (range_more 0 stop) ∙ ap (range_with_len 0) next in
    subst (AllZip Of (range_with_len 0 (stop + 1))) (sym c.in_ok-push.ensures.items)
    (subst (λ (stops : List ℕ). AllZip Of stops (c.loop-stop.all.items ++ set ∷ [])) more
    (all_zipped_more Of (range_with_len 0 stop) c.loop-stop.all.items stop set c.loop-stop.invariant c.in_ok-set.ensures))
