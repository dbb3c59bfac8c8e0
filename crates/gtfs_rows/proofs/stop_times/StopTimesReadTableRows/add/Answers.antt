use Rattle.std.proofs.Common.{refl}
use Rattle.std.proofs.lemmas.Result.{on_ok_weaker}
use Rattle.gtfs_rows.proofs.KeyLemmas.{stop_times_more}
use Rattle.gtfs_rows.proofs.stop_times.StopTimesReadTableRows.add.Goals as goal

pub returns-clause-ok : goal.returns-clause-ok
returns-clause-ok c = λ before held.
    let values = c.in_ok-arrival.ensures in
    rw c.in_ok-follow.ensures.same (on_ok_weaker c.add_row.result (λ items. (
      rw (← values.fault) refl,
      stop_times_more _ _ _ before _ _ (rw c.text.ensures at c.in_ok-trip.ensures.more) (rw c.text-2.ensures at c.in_ok-stop.ensures.more)
          (rw c.in_ok-follow.ensures.same at items)
          (record {
            trip = rw c.text.ensures at c.in_ok-trip.ensures.ok;
            arrival = values.arrival;
            departure = values.departure;
            stop = rw c.text-2.ensures at c.in_ok-stop.ensures.ok;
            sequence = values.sequence;
            board = rw c.get.ensures at c.available.ensures;
            alight = rw c.get-2.ensures at c.available-2.ensures;
          })
          held,
    )) c.add_row.ensures.ok)
