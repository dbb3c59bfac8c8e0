-- How sessions end, one after the other.
use Rattle.std.proofs.Common.{◌∷◌, ◌++◌, List, [], Some, None, IfSome, refl, subst}
use Rattle.lines.specs.Streams.{inner_of}
use Rattle.workers.specs.Ends.{Session}
use Rattle.workers.specs.Sessions.{AreServed, IsServedAt, MayCloseFrom, WorkerState}
use Rattle.workers.specs.Words.{SessionWords}

module _ {C R W T S N : Type 0} (words : SessionWords C R W T S N) where
  -- one client more is served behind the others
  pub served_also : (clients : List C) (sessions : List (Session R W S)) (client : C) (session : Session R W S) (a m b : WorkerState S)
      → AreServed words clients sessions a m → IsServedAt words client session m b
      → AreServed words (clients ++ client ∷ []) (sessions ++ session ∷ []) a b
  served_also [] [] client session a m b before added = (b, subst (λ (from : WorkerState S). IsServedAt words client session from b) before added, refl)
  served_also (c ∷ clients) (first ∷ sessions) client session a m b before added =
      (before.0, before.1, served_also clients sessions client session before.0 m b before.2 added)
  served_also clients sessions client session a m b before added = absurd before

  -- the reader and the writer of a session that was served may be closed
  pub may_close : (clients : List C) (sessions : List (Session R W S)) (client : C) (session : Session R W S) (start a b : WorkerState S)
      → MayCloseFrom words start → AreServed words clients sessions start a → IsServedAt words client session a b
      → IfSome session.0 (λ now. words.clients.closes (inner_of now.reader) (inner_of now.writer) session.1)
  may_close clients sessions client (None, end) start a b may before served = tt
  may_close clients sessions client (Some now, end) start a b may before served =
      may client now end (record { clients = clients; sessions = sessions; a = a; b = b; before = before; session = served })
