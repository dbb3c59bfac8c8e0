use Rattle.std.proofs.Common.{inl, inr}
use Rattle.feed_commands.proofs.stations.stop_table_in.Goals as goal

pub returns-in-Err-clause-fault : goal.returns-in-Err-clause-fault
returns-in-Err-clause-fault c = λ other. inl (c.in-Err.ensures.file, c.in-Err.ensures.err other)

pub returns-in-Err-homes_in-clause-fault : goal.returns-in-Err-homes_in-clause-fault
returns-in-Err-homes_in-clause-fault c = λ other.
    inr (c.in-Ok.rows.items, c.in-Ok.ensures.ok, rw c.deref.ensures.value at (c.in-Err-homes_in.ensures.err other))
