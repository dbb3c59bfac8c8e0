use Rattle.std.proofs.Common.{◌++◌, ◌∷◌, [], length, map, refl, ◌∙◌, ap}
use Rattle.fronts.specs.declared.entry.FrontEntry.{FrontEntry}
use Rattle.fronts.specs.Lists.{point_of}
use Rattle.fronts.proofs.Points.{none_at_end}
use Rattle.fronts.proofs.Walks.{first_sound}
use Rattle.fronts.proofs.front_lists.FrontLists.new.Goals as goal

pub returns : goal.returns
returns g c =
    let rules = g.C.Criterion.rules c.args.criterion in
    let sound = first_sound rules c.arrive.result c.in_ok-entries.entries.items c.push.new.self.items c.new.result.items
    c.in_ok-entries.ensures.items c.in_ok-push.ensures.items c.new.ensures.items in
    let end : FrontEntry g.row.C-V.Denot = record {
      departure = 4294967295;
      next = 0;
      rest = 0;
      count = 0;
      tag = 0;
      value = c.arrive.result;
    } in
    record {
      under = refl;
      sound = sound;
      empty = ap (map point_of) (none_at_end rules c.push.new.self.items c.new.result.items sound);
      alone = ap length c.in_ok-push.ensures.items ∙ ap (λ es. length (es ++ end ∷ [])) c.in_ok-entries.ensures.items;
      no_steps = c.in_ok-steps.ensures.items;
    }
