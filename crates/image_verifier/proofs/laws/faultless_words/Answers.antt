use Rattle.image_layout.specs.Shown.{timetable_of, names_of}
use Rattle.image_verifier.proofs.AcceptedLemmas.{AreFaultless-from, IsHeader-from}
use Rattle.image_verifier.proofs.ImageLemmas.{IsImage-from}
use Rattle.image_verifier.proofs.WordLemmas.{word_at}
use Rattle.image_verifier.proofs.OnlyLemmas.{image_is_faultless}
use Rattle.image_verifier.proofs.laws.faultless_words.Goals as goal

pub returns : goal.returns
returns c = λ w fits. (
  λ none. (
    timetable_of w,
    names_of w,
    IsImage-from w (record {
      whole =
          (IsHeader-from w (AreFaultless-from w none).header).whole;
      faultless = none;
      fits = word_at w fits;
    }),
  ),
  λ is. image_is_faultless w is.0 is.1 (word_at w fits) is.2,
)
