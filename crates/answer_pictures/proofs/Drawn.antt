-- Journeys drawn one after another.
use Rattle.std.proofs.Common.{◌≡◌, codes, refl, ℕ, Bool, ◌+◌, ◌<◌, Option, List, [], ◌∷◌, ◌++◌, length, take, get_or}
use Rattle.std.proofs.Common.{sym, ◌∙◌, ap, subst, append_assoc, append-nil}
use Rattle.std.proofs.lemmas.List.{take_more}
use Rattle.answer_pictures.specs.declared.axis.Axis.{Axis}
use Rattle.answer_pictures.specs.LineValue.{HeadingValue, LineValue}
use Rattle.answer_pictures.specs.Moments.{shows_seconds}
use Rattle.answer_pictures.specs.Pictures.{AreDrawn, IsPicture, axis_text, heading_text, line_text, remark_text, size_text, walk_text}
use Rattle.answer_pictures.proofs.Joined.{five}

-- one more journey below those that are drawn
pub drawn_on : (axis : Axis) (exact : Bool) (lines : List LineValue) (line : LineValue) (y : ℕ) (text : List ℕ)
    → AreDrawn axis exact lines text → AreDrawn axis exact (lines ++ line ∷ []) (text ++ line_text axis exact y line)
drawn_on axis exact [] line y text none = (y, [], refl, rw none (sym (append-nil _)))
drawn_on axis exact (first ∷ lines) line y text (top, rest, more, is) = (
  top,
  rest ++ line_text axis exact y line,
  drawn_on axis exact lines line y rest more,
  rw is (append_assoc (line_text axis exact top first) rest (line_text axis exact y line)),
)

-- the same for a loop that has come to one more of its journeys
pub one_more : (axis : Axis) (exact : Bool) (lines : List LineValue) (i : ℕ) (line : LineValue) (y : ℕ) (before now after : List ℕ)
    → i < length lines → line ≡ get_or lines i line
    → (drawn : List ℕ) × AreDrawn axis exact (take i lines) drawn × (now ≡ before ++ drawn)
    → after ≡ now ++ line_text axis exact y line
    → (drawn : List ℕ) × AreDrawn axis exact (take (i + 1) lines) drawn × (after ≡ before ++ drawn)
one_more axis exact lines i line y before now after lt there (drawn, are, is) wrote =
    let front : take (i + 1) lines ≡ take i lines ++ line ∷ [] = take_more lines i line lt ∙ ap (λ x. take i lines ++ x ∷ []) (sym there) in (
      drawn ++ line_text axis exact y line,
      subst (λ some. AreDrawn axis exact some (drawn ++ line_text axis exact y line)) (sym front) (drawn_on axis exact (take i lines) line y drawn are),
      wrote ∙ ap (λ x. x ++ line_text axis exact y line) is ∙ append_assoc before drawn (line_text axis exact y line),
    )

-- a picture, part by part
pub is_picture : (h : HeadingValue) (axis : Axis) (walk : Option ℕ) (lines : List LineValue) (left : ℕ) (exact : Bool) (o p q r s t : List ℕ)
    (height bottom top below : ℕ) (marks heights : List ℕ) → exact ≡ shows_seconds lines
    → o ≡ [] → p ≡ o ++ (size_text height ++ heading_text h (length lines) left) → q ≡ p ++ axis_text axis bottom marks heights
    → r ≡ q ++ walk_text axis top walk
    → (drawn : List ℕ) × AreDrawn axis exact lines drawn × (s ≡ r ++ drawn)
    → t ≡ s ++ (remark_text below (length lines) left ++ codes "</svg>\n")
    → IsPicture h axis walk lines left t
is_picture h axis walk lines left exact o p q r s t height bottom top below marks heights shown none begun marked walked (drawn, are, on) ended =
    record {
      height = height;
      bottom = bottom;
      below = below;
      top = top;
      marks = marks;
      heights = heights;
      drawn = drawn;
      are_drawn = subst (λ e. AreDrawn axis e lines drawn) shown are;
      is =
          five [] p q r s t _ _ _ _ _ (begun ∙ ap (λ x. x ++ (size_text height ++ heading_text h (length lines) left)) none) marked walked on ended;
    }
