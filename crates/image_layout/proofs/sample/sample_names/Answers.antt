use Rattle.image_layout.proofs.SampleImage.{sample_has_image}
use Rattle.image_layout.proofs.sample.sample_names.Goals as goal

pub returns-clause-fit : goal.returns-clause-fit
returns-clause-fit c =
    rw (
      c.in_ok-stops.ensures.items,
      c.in_ok-trips.ensures.items,
      c.in_ok-a.ensures.ok,
      c.in_ok-b.ensures.ok,
      c.in_ok-c.ensures.ok,
      c.in_ok-t1.ensures.ok,
      c.in_ok-t2.ensures.ok,
    )
    sample_has_image.names
