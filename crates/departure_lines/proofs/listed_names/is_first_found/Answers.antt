use Rattle.std.proofs.Common.{rules, Some}
use Rattle.std.proofs.lemmas.Map.Text.{btree_map_updates_str}
use Rattle.departure_lines.specs.Sought.{found_at}
use Rattle.departure_lines.proofs.Sought.{found_now}
use Rattle.departure_lines.proofs.listed_names.is_first_found.Goals as goal

pub returns-in-Some-clause-found : goal.returns-in-Some-clause-found
returns-in-Some-clause-found c = λ q.
    let now = c.find_now.new.is_found in
    found_now c.args.name.now q (found_at c.args.found.now) c.in-Some.is_found.now now _ (search rules) c.find_now.ensures.found
    (btree_map_updates_str c.args.name.now c.args.found.now (c.get_mut.follows.lender now) (Some now)
    ((c.get_mut.follows.holds now).3 (search rules)) q)
