-- Pictures of departures, line by line.
use Rattle.std.proofs.Common.{◌≡◌, ℕ, ◌+◌, ◌-◌, ◌<◌, All, Option, List, [], ◌∷◌, ◌++◌, length, take, get_or, sym, ap, ◌∙◌, subst}
use Rattle.std.specs.List.{AllZip}
use Rattle.std.proofs.lemmas.List.{take_more}
use Rattle.std.proofs.lemmas.Slice.Zip.{all_zipped_more}
use Rattle.criteria.specs.declared.name.CriterionName.{CriterionName}
use Rattle.criteria.specs.declared.figures.Figures.{Figures}
use Rattle.image_layout.specs.Image.{ImageValue}
use Rattle.scan_state.specs.SetQuery.{SetQueryValue}
use Rattle.answer_pictures.specs.declared.axis.Axis.{Axis}
use Rattle.answer_pictures.specs.LineValue.{HeadingValue, LineValue}
use Rattle.answer_pictures.specs.Pictures.{IsPicture, LiesOn}
use Rattle.journeys.specs.declared.answering.Departure.{Departure}
use Rattle.image_commands.specs.Picturing.{IsDrawnAs, IsHeadingBetween, IsPictureOf}

-- one more line is that of the next departure
pub drawn_more : {A B : Type 0} (R : A → B → Type 0) (xs : List A) (i : ℕ) (x : A) (ys zs : List B) (y : B)
    → i < length xs → x ≡ get_or xs i x → AllZip R (take i xs) ys → R x y → zs ≡ ys ++ y ∷ [] → AllZip R (take (i + 1) xs) zs
drawn_more R xs i x ys zs y lt there before last grown =
    let front : take i xs ++ x ∷ [] ≡ take (i + 1) xs = sym (take_more xs i x lt ∙ ap (λ z. take i xs ++ z ∷ []) (sym there)) in
    subst (λ some. AllZip R some zs) front (subst (AllZip R (take i xs ++ x ∷ [])) (sym grown) (all_zipped_more R (take i xs) ys x y before last))

-- a picture with the lines of the departures that are drawn
pub picture_made : {V : Type 0} (figures : V
    → Figures) (image : ImageValue) (name : CriterionName) (rows : ℕ) (b : SetQueryValue)
    (departures drawn : List (Departure V))
    (walk : Option ℕ) (text : List ℕ) (heading shown : HeadingValue) (axis : Axis) (lines seen drew : List LineValue) (left : ℕ)
    → IsHeadingBetween image.names name b heading → drawn ≡ take rows departures → seen ≡ lines → drew ≡ lines
    → shown ≡ heading → AllZip (IsDrawnAs figures image) drawn lines
    → All (LiesOn axis) seen → left ≡ length departures - rows → IsPicture shown axis walk drew left text
    → IsPictureOf figures image name rows b departures walk text
picture_made figures image name rows b departures drawn walk text heading shown axis lines seen drew left asked some same last above are covered rest is =
    record {
      heading = heading;
      axis = axis;
      lines = lines;
      asked = asked;
      drawn = subst (λ ds. AllZip (IsDrawnAs figures image) ds lines) some are;
      covered = subst (All (LiesOn axis)) same covered;
      is = subst (λ n. IsPicture heading axis walk lines n text) rest
          (subst (λ h. IsPicture h axis walk lines left text) above (subst (λ ls. IsPicture shown axis walk ls left text) last is));
    }
