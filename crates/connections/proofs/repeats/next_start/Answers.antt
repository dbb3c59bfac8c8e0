use Rattle.std.proofs.Common.{◌+◌, List, get_or, subst, take, refl, MatchOption}
use Rattle.std.proofs.lemmas.List.{take_all}
use Rattle.gtfs_tables.specs.declared.tables.Frequency.{Frequency}
use Rattle.connections.specs.Repeats.{is_start, leaves_at}
use Rattle.connections.specs.Starts.{IsNever, IsNext}
use Rattle.connections.proofs.RepeatSteps.{next_of_both, room_of_both, start_more}
use Rattle.connections.proofs.repeats.next_start.Goals as goal

pub loop-row-init : goal.loop-row-init
loop-row-init c = record { next = λ s low. refl; room = tt }

pub loop-row-preserved : goal.loop-row-preserved
loop-row-preserved c =
    let none : Frequency = record { trip = 0; start = 0; end = 0; headway = 0 } in
    record {
      next = rw c.earlier-next.ensures
          (next_of_both (is_start (take c.loop-row.row-index c.args.rows.now)) (λ s. leaves_at s (get_or c.args.rows.now c.loop-row.row-index none))
          (is_start (take (c.loop-row.row-index + 1) c.args.rows.now)) c.args.from
          c.loop-row.next c.next_of_row.result (start_more c.args.rows.now c.loop-row.row-index none c.loop-row-test.true) c.loop-row.invariant.next
          c.next_of_row.ensures.next);
      room = rw c.earlier-next.ensures (room_of_both c.loop-row.next c.next_of_row.result 4294967295 c.loop-row.invariant.room c.next_of_row.ensures.room);
    }

pub returns-clause-next : goal.returns-clause-next
returns-clause-next c =
    subst (λ (rows : List Frequency). MatchOption c.loop-row.next (IsNever (is_start rows) c.args.from) (IsNext (is_start rows) c.args.from))
    (take_all c.loop-row.row-index c.args.rows.now c.loop-row-test.false) c.loop-row.invariant.next

pub returns-clause-room : goal.returns-clause-room
returns-clause-room c = c.loop-row.invariant.room
