-- The first departure and the last arrival of journeys.
use Rattle.std.proofs.Common.{◌≡◌, ℕ, ◌+◌, ◌<◌, ◌≤◌, All, List, length, take, get_or, slice_index_or, subst, arith}
use Rattle.std.proofs.lemmas.List.Elements.{All-more}
use Rattle.answer_pictures.specs.LineValue.{LineValue}
use Rattle.answer_pictures.specs.Pictures.{IsBetween}

widen : (first last early late : ℕ) (line : LineValue) → early ≤ first → last ≤ late → IsBetween first last line → IsBetween early late line
widen first last early late line a b (departs, arrives) = (omega (arith, a, departs), omega (arith, b, arrives))

-- one more journey, and ends that cover it too
pub covers_more : (first last early late : ℕ) (lines : List LineValue) (i : ℕ) (line : LineValue) → i < length lines → line ≡ get_or lines i line
    → early ≤ first → early ≤ line.departure → last ≤ late → line.arrival ≤ late
    → All (IsBetween first last) (take i lines) → All (IsBetween early late) (take (i + 1) lines)
covers_more first last early late lines i line lt there a b d e before =
    All-more (IsBetween early late) lines i line lt
    (λ k other small. widen first last early late (slice_index_or (take i lines) k other) a d
    (before k other small))
    (subst (IsBetween early late) there (b, e))
