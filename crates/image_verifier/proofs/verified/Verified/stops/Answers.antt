use Rattle.std.proofs.Common.{subst}
use Rattle.image_layout.specs.Image.{HasImage, ImageValue}
use Rattle.image_verifier.proofs.ImageLemmas.{IsImage-from}
use Rattle.image_verifier.proofs.verified.Verified.stops.Goals as goal

pub returns-clause-kept : goal.returns-clause-kept
returns-clause-kept c = subst (λ (v : ImageValue). HasImage v.timetable v.names) c.self.view_is (IsImage-from c.self.inside.words.items c.self.invariant).can_be
