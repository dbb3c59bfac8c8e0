use Rattle.tests_image.proofs.Legal.{one_stop_is_legal}
use Rattle.tests_image.proofs.tests.writing.one_stop.Goals as goal

pub returns-clause-legal : goal.returns-clause-legal
returns-clause-legal c = rw (c.new.ensures.items, c.in_ok-footpaths.ensures.items, c.change.ensures) one_stop_is_legal
