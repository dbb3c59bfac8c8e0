use Rattle.std.proofs.Common.{rules}
use Rattle.shelves.proofs.Publications.{collects_grow}
use Rattle.shelves.proofs.Tries.{freed_is_empty, tries_find}
use Rattle.shelves.proofs.shelf_loader.ShelfLoader.collect_at.Goals as goal

pub returns : goal.returns
returns c =
    let view = c.args.self.now.view in let after = c.try_all-found.new.self.view in let found = c.try_all-found.result in
    let steps = c.try_all-found.ensures.steps in
    rw c.note_answer.ensures (record {
      still = record { fits = search rules; grows = collects_grow view after found steps };
      current = search rules;
      loader = (freed_is_empty view found after (search rules) steps.0, search rules);
      steps = steps;
      tries = tries_find view after found steps.0;
      all = steps.1;
    })
