-- A summary of the points of a stop.
use Rattle.std.proofs.Common.{◌≡◌, ◌<◌, ◌-◌, ℕ, List, Option, length, map, get_or, refl, ◌∙◌, ap, arith}
use Rattle.std.proofs.lemmas.Option.{slice_get_read}
use Rattle.bags.specs.declared.point.Point.{Point}
use Rattle.criteria.specs.declared.figures.Figures.{Figures}
use Rattle.departure_lines.specs.Lines.{IsLeast, IsSummaryOf, travel}
use Rattle.departure_lines.specs.declared.stop_words.StopSummary.{StopSummary}

pub summed : {V : Type 0} (figures : V → Figures) (points : List (Point V)) (walk : Option ℕ) (first last : Point V) (from to least : ℕ)
    → 0 < length points → first ≡ get_or points 0 first → last ≡ get_or points (length points - 1) last
    → IsLeast (map (travel figures) points) least → from ≡ first.departure → to ≡ last.departure
    → IsSummaryOf figures points walk (record { points = length points; first = from; last = to; least = least; walk = walk })
summed figures points walk first last from to least some begins ends is from_is to_is =
    let made : ℕ → ℕ → StopSummary = λ a b. record { points = length points; first = a; last = b; least = least; walk = walk } in
    record {
      first = first;
      last = last;
      begins = slice_get_read points (length points) 0 first refl some begins;
      ends = slice_get_read points (length points) (length points - 1) last refl (omega (arith, some)) ends;
      least_is = is;
      is = ap (λ n. made n to) from_is ∙ ap (λ n. made first.departure n) to_is;
    }
