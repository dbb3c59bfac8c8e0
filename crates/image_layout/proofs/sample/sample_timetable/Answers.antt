use Rattle.image_layout.proofs.SampleImage.{sample_has_image}
use Rattle.image_layout.proofs.sample.sample_timetable.Goals as goal

pub returns-clause-legal : goal.returns-clause-legal
returns-clause-legal c =
    rw (
      c.in_ok-connections.ensures.items,
      c.in_ok-footpaths.ensures.items,
      c.open_connection.ensures,
      c.open_connection-2.ensures,
      c.open_connection-3.ensures,
      c.free_change.ensures,
      c.free_change-2.ensures,
      c.free_change-3.ensures,
    )
    sample_has_image.legal
