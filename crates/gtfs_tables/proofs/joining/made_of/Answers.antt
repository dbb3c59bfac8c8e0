use Rattle.std.proofs.Common.{◌∙◌, inl, inr, refl}
use Rattle.gtfs_tables.proofs.joining.made_of.Goals as goal

pub timed_rows-requires-clause-flex : goal.timed_rows-requires-clause-flex
timed_rows-requires-clause-flex c = c.requires.flex

pub timed_rows-requires-clause-rising : goal.timed_rows-requires-clause-rising
timed_rows-requires-clause-rising c = c.requires.rising

pub returns-in-Err-clause-err : goal.returns-in-Err-clause-err
returns-in-Err-clause-err c = λ other. inl (c.in-Err.ensures.err other)

pub returns-in_default-clause-err : goal.returns-in_default-clause-err
returns-in_default-clause-err c = λ other. absurd (other c.out_of_memory.ensures)

pub returns-in-Ok-transfers-clause-rows : goal.returns-in-Ok-transfers-clause-rows
returns-in-Ok-transfers-clause-rows c = c.in-Ok.ensures.rows

pub returns-in-Ok-transfers-clause-fine : goal.returns-in-Ok-transfers-clause-fine
returns-in-Ok-transfers-clause-fine c = c.in-Ok.ensures.fine

pub returns-in-Ok-transfers-clause-trips : goal.returns-in-Ok-transfers-clause-trips
returns-in-Ok-transfers-clause-trips c = c.in-Ok.ensures.trips

pub returns-in-Ok-transfers-clause-stops : goal.returns-in-Ok-transfers-clause-stops
returns-in-Ok-transfers-clause-stops c = λ named are. c.in-Ok-feed_stops.ensures named (c.deref.ensures.value ∙ are)

pub returns-in-Ok-transfers-clause-frequencies : goal.returns-in-Ok-transfers-clause-frequencies
returns-in-Ok-transfers-clause-frequencies c = refl

pub returns-in-Ok-transfers-clause-transfers : goal.returns-in-Ok-transfers-clause-transfers
returns-in-Ok-transfers-clause-transfers c = c.in-Ok-transfers.is

pub returns-clause-err : goal.returns-clause-err
returns-clause-err c = λ other. inr (c.in-Ok.ensures.fine, c.in-Err-transfers.is)
