use Rattle.feed_loads.proofs.Learning.{load_learns, refusal_learns}
use Rattle.feed_loads.proofs.loading.publish_image.Goals as goal

-- what was published is known, and the collection leaves it so
pub returns-in-Ok-clause-seat : goal.returns-in-Ok-clause-seat
returns-in-Ok-clause-seat g c =
    let published = c.in-Ok.ensures in
    let collected = c.collect.ensures in
    record {
      fits = collected.still.fits;
      learns = load_learns _ _ _ _ _ _ _ c.in-Ok.loaded.0 c.collect.result published.loader published.published c.publish.ensures.still.grows
          collected.loader collected.still.grows;
    }

pub returns-clause-seat : goal.returns-clause-seat
returns-clause-seat g c = record {
  fits = c.publish.ensures.still.fits;
  learns = refusal_learns _ _ _ _ c.in-Err.fault c.in-Err.ensures.loader c.publish.ensures.still.grows;
}
