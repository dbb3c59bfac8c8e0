use Rattle.std.proofs.Common.{◌∷◌, ◌++◌, [], refl, ap, ◌∙◌}
use Rattle.arrival_lists.specs.Lists.{never}
use Rattle.arrival_lists.specs.declared.arrival_lists.ArrivalLists.{ArrivalLists}
use Rattle.arrival_lists.specs.declared.entry.Entry.{Entry}
use Rattle.arrival_lists.proofs.Insertions.{empty_alone}
use Rattle.arrival_lists.proofs.arrival_lists.ArrivalLists.new.Goals as goal

pub returns : goal.returns
returns c =
    let lists : ArrivalLists = record { entries = c.push.new.self; passed = c.new.result } in
    let end : Entry = record { departure = never; time = never; next = 0; tag = 0; step = record { first = 0; label = 0; walk = 0 } } in
    empty_alone lists end (c.in_ok-push.ensures.items ∙ ap (λ es. es ++ end ∷ []) c.in_ok-entries.ensures.items) refl refl refl
