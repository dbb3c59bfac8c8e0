use Rattle.std.proofs.Common.{inr, refl}
use Rattle.feed_commands.proofs.stations.stop_table_of.Goals as goal

pub returns-in-Ok-stop_table_in-clause-stop_table : goal.returns-in-Ok-stop_table_in-clause-stop_table
returns-in-Ok-stop_table_in-clause-stop_table g c =
    (c.in-Ok.bytes.items, c.in-Ok.ensures.bytes, rw c.deref.ensures.value at c.in-Ok-stop_table_in.ensures.stop_table)

pub returns-clause-refused : goal.returns-clause-refused
returns-clause-refused g c = λ unless.
    inr (inr (
      c.in-Err-stop_table_in.fault,
      c.in-Ok.bytes.items,
      c.in-Ok.ensures.bytes,
      rw c.deref.ensures.value at (c.in-Err-stop_table_in.ensures.fault unless),
      refl,
    ))
