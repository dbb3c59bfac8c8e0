use Rattle.std.proofs.lemmas.Map.Text.{btree_map_updates_str}
use Rattle.matrix_rows.proofs.repeated.add_index.Goals as goal

pub returns : goal.returns
returns c = λ q. btree_map_updates_str c.args.name.now c.args.list_indices.now c.insert.new.self _ c.in_ok-insert.ensures.updates q
