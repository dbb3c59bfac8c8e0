use Rattle.std.proofs.Common.{rules, Some}
use Rattle.std.proofs.lemmas.Map.Text.{btree_map_updates_str}
use Rattle.matrix_rows.specs.Sought.{found_at}
use Rattle.matrix_rows.proofs.Sought.{found_now}
use Rattle.matrix_rows.proofs.listed_names.note_stop.Goals as goal

pub returns-in-Some : goal.returns-in-Some
returns-in-Some c = λ q.
    let now = c.keep_first.new.first in
    found_now c.args.name.now q (found_at c.args.found.now) c.in-Some.first.now now c.args.stop _ (search rules) c.keep_first.ensures
    (btree_map_updates_str c.args.name.now c.args.found.now (c.get_mut.follows.lender now) (Some now)
    ((c.get_mut.follows.holds now).3 (search rules)) q)
