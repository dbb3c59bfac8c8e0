use Rattle.std.proofs.Common.{◌^◌, ◌<◌, arith, refl}
use Rattle.image_layout.specs.declared.layout.TheConstants.{FIRST_LAYOUT, LAYOUT}
use Rattle.image_layout.specs.Spelling.{image, image_in}
use Rattle.image_verifier.proofs.OnlyLemmas.{image_is_faultless}
use Rattle.image_verifier.proofs.WordLemmas.{image_fits, word_at}
use Rattle.image_verifier.proofs.laws.every_timetable_has_an_image.Goals as goal

small : LAYOUT < 2 ^ 32
small = omega arith

first_small : FIRST_LAYOUT < 2 ^ 32
first_small = omega arith

pub returns-clause-words : goal.returns-clause-words
returns-clause-words c = λ t n can. image_fits LAYOUT t n small can

pub returns-clause-faultless : goal.returns-clause-faultless
unfolding image_in
returns-clause-faultless c = λ t n can.
    image_is_faultless (image t n) t n (word_at (image t n) (image_fits LAYOUT t n small can))
    (record { can_be = can; layout = refl; first = λ same. absurd (omega (arith, same)); spelled = refl })

pub returns-clause-first_layout : goal.returns-clause-first_layout
unfolding image_in
returns-clause-first_layout c = λ t n can are_first.
    image_is_faultless (image_in FIRST_LAYOUT t n) t n (word_at (image_in FIRST_LAYOUT t n) (image_fits FIRST_LAYOUT t n first_small can))
    (record { can_be = can; layout = refl; first = λ same. are_first; spelled = refl })
