-- What the loader comes to know of the history of its shelves.
use Rattle.shelf_steps.specs.declared.views.KnownHistory.{KnownHistory}
use Rattle.shelves.specs.SeatHistory.{IsPublished, LearnsBy}
use Rattle.shelves.specs.Words.{LoaderWords}
use Rattle.shelves.specs.declared.answers.LoaderAnswer.{LoaderAnswer}

-- if a version was published by this answer, it was published with that image in this history
abbrev pub TellsLoaded : KnownHistory → LoaderAnswer → Type 0
TellsLoaded known (LoaderAnswer.Published version image) = IsPublished known version image.value
TellsLoaded known _ = Unit {0}

-- each version that the loader published meanwhile was published, with its image, in the history that its seat knows then
abbrev pub LoaderLearns : {T L : Type 0} → LoaderWords T L → L → L → Type 0
LoaderLearns words a b = LearnsBy TellsLoaded (words.known a) (words.answers a) (words.known b) (words.answers b)

-- what every call leaves of the loader's seat: it may still be used at these shelves, and it learned so
pub record LoaderFitsAndLearns {T L : Type 0} (words : LoaderWords T L) (shelves : T) (a b : L) : Type 0 where
  pub fits : words.fits shelves b
  pub learns : LoaderLearns words a b
