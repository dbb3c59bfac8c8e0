use Rattle.std.proofs.Common.{rules, refl}
use Rattle.std.specs.Arc.{arc_value}
use Rattle.shelves.specs.SeatHistory.{Grows, IsPublished, EndsPublish}
use Rattle.shelf_steps.specs.Events.{known_of}
use Rattle.shelves.proofs.Publications.{noticed, publishes_end, ended_grows, refused_tells}
use Rattle.shelves.proofs.Resting.{refuses}
use Rattle.shelves.proofs.shelf_loader.ShelfLoader.publish_at.Goals as goal

pub returns-in-Ok-clause-published : goal.returns-in-Ok-clause-published
returns-in-Ok-clause-published c =
    let before = known_of c.args.self.now.view in let view = c.publish_quietly.new.self.view in let version = c.in-Ok.version in
    let image = arc_value c.args.image in let next = c.in-Ok.ensures.next.0 in let p = c.in-Ok.ensures.published in
    let ends = publishes_end c.args.self.now.view p.0 view image version p.1 p.2 in
    rw (c.note_at-notice.ensures.noted, c.note_answer.ensures) (record {
      still = record { fits = search rules; grows = noticed (λ k. Grows before k) view (ended_grows before (known_of view) version ends) };
      number = record { next = next.next; current = next.current };
      loader = search rules;
      steps = (p.0, p.1, (view, p.2, refl));
      published = noticed (λ k. IsPublished k version image) view c.in-Ok.ensures.known;
      ends = noticed (λ k. EndsPublish before version k) view ends;
    })

pub returns-in-Err-clause-refused : goal.returns-in-Err-clause-refused
returns-in-Err-clause-refused c =
    let view = c.args.self.now.view in let after = c.publish_quietly.new.self.view in let why = c.in-Err.ensures.refused in
    let tells = refused_tells view after c.in-Err.fault why.2 in
    rw c.note_answer-in-Err.ensures (record {
      still = record { fits = search rules; grows = tells.grows };
      current = why.0;
      loader = refuses view after c.in-Err.fault c.args.self.now.answers _ why.2 (search rules);
      spent = why.1;
      steps = why.2;
      full = tells.full;
      refused = tells.refused;
    })
