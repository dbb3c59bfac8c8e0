use Rattle.std.proofs.Common.{List, inl, inr, refl}
use Rattle.std.specs.Arc.{arc_value}
use Rattle.shelves.specs.declared.answers.LoaderAnswer.{LoaderAnswer}
use Rattle.feed_loads.specs.Loading.{IsEarly, IsNotPublished}
use Rattle.feed_loads.specs.declared.refusal.LoadRefusal.{LoadRefusal}
use Rattle.feed_loads.proofs.loading.load_one.Goals as goal

-- what is answered before a publish was tried leaves the loader's seat as it was
not_published : (answers : List LoaderAnswer) (refusal : LoadRefusal) → IsEarly refusal → IsNotPublished answers refusal answers
not_published answers (LoadRefusal.Load fault) early = refl
not_published answers (LoadRefusal.Publish fault) early = inl (refl, early)

pub returns-in-Err-clause-outcome : goal.returns-in-Err-clause-outcome
returns-in-Err-clause-outcome g c =
    let early = c.in-Err.ensures in
    record { comes = (early.read, early.made.1, not_published _ _ early.made.0); files = record { holds = early.files.holds; failed = early.files.failed } }

-- what isn't published is the image of the files
pub returns-in-Err-publish_image-clause-outcome : goal.returns-in-Err-publish_image-clause-outcome
returns-in-Err-publish_image-clause-outcome g c =
    let shared = c.in-Ok.ensures in
    record {
      comes = (shared.read, ((arc_value c.in-Ok.image, c.in-Ok.report), shared.made), inr c.in-Err-publish_image.ensures.published);
      files = record { holds = shared.files.holds; failed = shared.files.failed };
    }
