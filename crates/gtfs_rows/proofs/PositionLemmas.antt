-- Lines counted piece by piece.
use Rattle.std.proofs.Common.{◌≡◌, ◌+◌, ◌-◌, ◌≤◌, ◌∷◌, [], ℕ, zero, suc, List, length, drop, slice_range, refl, ap, ◌∙◌, arith, length-drop, take_all}
use Rattle.std.proofs.lemmas.Grind.{common_steps}
use Rattle.gtfs_rows.specs.Positions.{line_ends}

-- no line ends before the first byte
pub no_lines : (text : List ℕ) → line_ends text 0 ≡ 0
no_lines [] = refl
no_lines (b ∷ rest) = refl

lines_behind : (text : List ℕ) (m n : ℕ) → line_ends text (m + n) ≡ line_ends text m + line_ends (drop m text) n
lines_behind [] m n = grind (arith, common_steps)
lines_behind (b ∷ rest) zero n = let e : 0 + n ≡ n = omega arith in rw e (omega arith)
lines_behind (b ∷ rest) (suc m) n =
    let e : suc m + n ≡ suc (m + n) = omega arith in
    let more = lines_behind rest m n in
    rw e (grind (arith, more))

-- the lines that end before a byte, counted on from an earlier one
pub lines_further : (bytes : List ℕ) (from byte : ℕ) → from ≤ byte → from ≤ length bytes
    → line_ends bytes byte ≡ line_ends bytes from + line_ends (slice_range bytes from (length bytes)) (byte - from)
lines_further bytes from byte h within =
    let whole : byte ≡ from + (byte - from) = omega arith in
    let rest : slice_range bytes from (length bytes) ≡ drop from bytes =
    take_all (length bytes - from) (drop from bytes) (omega (arith, length-drop from bytes)) in
    ap (line_ends bytes) whole ∙ (rw rest (lines_behind bytes from (byte - from)))
