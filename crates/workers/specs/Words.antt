-- What contracts say of clients and of their sessions: one record of words for each.
use Rattle.std.specs.Prelude.{Result}
use Rattle.shelves.specs.Words.{SeatWords}
use Rattle.lines.specs.Streams.{StreamWords}
use Rattle.session.specs.declared.reply_form.ReplyForm.{ReplyForm}
use Rattle.workers.specs.declared.clients.ConnFault.{ConnFault}
use Rattle.workers.specs.declared.served.SessionEnd.{SessionEnd}

-- clients: what may come of opening one, and whether its reader and its writer, as they are then, may be closed as those of a session that ended so
pub record ClientWords (C R W : Type 0) : Type 1 where
  pub opens : C → Result (R × W) ConnFault → Type 0
  pub closes : R → W → SessionEnd → Type 0

-- sessions: the form of their replies, their clients, these clients' readers and writers, and the seats at which they are served
pub record SessionWords (C R W T S N : Type 0) : Type 1 where
  pub form : ReplyForm
  pub clients : ClientWords C R W
  pub reads : StreamWords R
  pub writes : StreamWords W
  pub seats : SeatWords T S N

abbrev pub sessions_of : {C R W T S N : Type 0} → ReplyForm → ClientWords C R W → StreamWords R → StreamWords W → SeatWords T S N → SessionWords C R W T S N
sessions_of form clients reads writes seats = record { form = form; clients = clients; reads = reads; writes = writes; seats = seats }
