use Rattle.std.proofs.Common.{refl}
use Rattle.image_layout.specs.Spelling.{image_in, text_words}
use Rattle.image_layout.specs.Shown.{connections_of, footpaths_of}
use Rattle.image_layout.proofs.SampleImage.{sample_has_image, sample_is_first}
use Rattle.image_layout.proofs.sample.sample_words.Goals as goal

pub returns : goal.returns
unfolding image_in text_words connections_of footpaths_of
returns c = record {
  image = record { can_be = sample_has_image; layout = refl; first = λ same. sample_is_first; spelled = refl };
  layout = refl;
  timetable = refl;
  names = refl;
}
