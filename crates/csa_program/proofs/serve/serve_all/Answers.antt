use Rattle.std.proofs.Common.{◌≡◌, [], length}
use Rattle.workers.specs.Ordering.{route_to}
use Rattle.workers.specs.Sessions.{worker_starts, work_of}
use Rattle.shelves.specs.ShelfSeats.{shelf_seats}
use Rattle.workers.specs.Words.{sessions_of}
use Rattle.csa_program.proofs.ServedEnds.{ok_then, ok_then_all, sessions_many}
use Rattle.csa_program.proofs.serve.serve_all.Goals as goal

-- one session for each client who came
pub returns-clause-many : goal.returns-clause-many
returns-clause-many g c =
    ok_then c.run_shelves.result _
    (λ run_result. g.K.Clients.words.came c.args.clients ≡ [] → length run_result.served ≡ length (g.K.Clients.words.came run_result.clients))
    (λ run_result served none. sessions_many (sessions_of c.args.form g.C.Client.words g.C.Reader.ReadStream.words g.C.Writer.WriteStream.words shelf_seats)
    (g.K.Clients.words.came c.args.clients) (g.K.Clients.words.came run_result.clients)
    (worker_starts c.args.made.2.items (route_to c.args.folders.now.setup.now.names.items run_result.loader_orders.queue))
    (work_of run_result.served run_result.seats.items run_result.worker_orders) served none) c.run_shelves.ensures.served

-- what the run was, in one record
pub returns-clause-run : goal.returns-clause-run
returns-clause-run g c =
    ok_then_all c.run_shelves.result _ _ _ _ _ (λ run_result left served loaded. record { left = left; served = served; loaded = loaded })
    c.run_shelves.ensures.left c.run_shelves.ensures.served c.run_shelves.ensures.loaded
