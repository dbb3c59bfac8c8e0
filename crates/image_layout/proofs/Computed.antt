-- The small images of the laws, computed both ways: the words from the timetable and names, and these from the words.
use Rattle.std.proofs.Common.{◌≡◌, refl}
use Rattle.image_layout.specs.declared.layout.TheConstants.{FIRST_LAYOUT}
use Rattle.image_layout.specs.Sample.{early_timetable, early_names, early_words, repeated_names, repeated_words}
use Rattle.image_layout.specs.Shown.{connections_of, footpaths_of, timetable_of}
use Rattle.image_layout.specs.Spelling.{image, image_in, text_words}

pub are_spelled : (image_in FIRST_LAYOUT early_timetable early_names ≡ early_words) × (image early_timetable repeated_names ≡ repeated_words)
unfolding image_in text_words
are_spelled = (refl, refl)

pub show_their_timetable : (timetable_of early_words ≡ early_timetable) × (timetable_of repeated_words ≡ early_timetable)
unfolding connections_of footpaths_of
show_their_timetable = (refl, refl)
