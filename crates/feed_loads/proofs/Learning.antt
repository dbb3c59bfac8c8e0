-- What the loader comes to know, call by call.
use Rattle.std.proofs.Common.{◌≡◌, ◌++◌, ◌∷◌, ℕ, List, [], sym, subst}
use Rattle.image_layout.specs.Image.{ImageValue}
use Rattle.shelf_steps.specs.declared.views.KnownHistory.{KnownHistory}
use Rattle.shelves.specs.SeatHistory.{Grows, IsPublished, LearnsBy}
use Rattle.shelves.specs.Seats.{ShowsCollection, ShowsPublish, ShowsRefusal}
use Rattle.shelves.specs.Words.{LoaderWords}
use Rattle.shelves.specs.declared.collected.Collected.{Collected}
use Rattle.shelves.specs.declared.faults.PublishFault.{PublishFault}
use Rattle.shelves.specs.declared.answers.LoaderAnswer.{LoaderAnswer}
use Rattle.shelves.proofs.GrowthLemmas.{grows_same, learns_both, learns_nothing, learns_one, published_stay}
use Rattle.feed_loads.specs.Learned.{LoaderFitsAndLearns, TellsLoaded}

-- what was published stays so
published_later : (k later : KnownHistory) (answer : LoaderAnswer) → Grows k later → TellsLoaded k answer → TellsLoaded later answer
published_later k later (LoaderAnswer.Published version image) grows is = published_stay k later version image.value grows is
published_later k later answer grows is = tt

-- nothing was done, and one call behind the other
pub loader_goes_same : {T L : Type 0} (words : LoaderWords T L) (shelves : T) (s : L) → words.fits shelves s → LoaderFitsAndLearns words shelves s s
loader_goes_same words shelves s fits = record {
  fits = fits;
  learns = learns_nothing TellsLoaded _ _ _ (grows_same (words.known s));
}

pub loader_goes_on : {T L : Type 0} (words : LoaderWords T L) (shelves : T) (a m b : L) → LoaderFitsAndLearns words shelves a m
    → LoaderFitsAndLearns words shelves m b → LoaderFitsAndLearns words shelves a b
loader_goes_on words shelves a m b p q = record { fits = q.fits; learns = learns_both TellsLoaded published_later _ _ _ _ _ _ p.learns q.learns }

-- a publish and the collection behind it
pub load_learns : (k l n : KnownHistory) (before between after : List LoaderAnswer) (image : ImageValue) (version : ℕ) (found : Collected)
    → ShowsPublish before image version between → IsPublished l version image → Grows k l → ShowsCollection between found after → Grows l n
    → LearnsBy TellsLoaded k before n after
load_learns k l n before between after image version found publish is grows collect then =
    let told = subst (λ (i : ImageValue). IsPublished l version i) (sym publish.2.1) is in
    learns_both TellsLoaded published_later k l n before between after
    (learns_one TellsLoaded k l before between (LoaderAnswer.Published version publish.2.0) grows publish.2.2 told)
    (learns_one TellsLoaded l n between after (LoaderAnswer.Collected found) then collect.1 tt)

-- a publish that is refused
is_refused : (before after : List LoaderAnswer) (fault : PublishFault) → ShowsRefusal before fault after
    → after ≡ before ++ LoaderAnswer.PublishRefused fault ∷ []
is_refused before after (PublishFault.ShelvesFull counts) step = step.1
is_refused before after fault step = step

pub refusal_learns : (k l : KnownHistory) (before after : List LoaderAnswer) (fault : PublishFault) → ShowsRefusal before fault after → Grows k l
    → LearnsBy TellsLoaded k before l after
refusal_learns k l before after fault step grows =
    learns_one TellsLoaded k l before after (LoaderAnswer.PublishRefused fault) grows (is_refused before after fault step) tt
