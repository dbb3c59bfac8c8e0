use Rattle.std.proofs.Common.{◌≡◌}
use Rattle.lines.specs.Reading.{unread_of}
use Rattle.session.specs.Learning.{FitsAndLearns}
use Rattle.session.specs.Exchanges.{seat_state}
use Rattle.session.specs.Sessions.{serve_words, state_of}
use Rattle.session.proofs.LineLemmas.{AtLine}
use Rattle.session.proofs.session_server.SessionServer.answer_lines.Given as goal

abbrev pub invariant-loop : goal.invariant-loop
invariant-loop g l =
    let words = g.T.Versions.words in
    record {
      seat : FitsAndLearns words l.self.shelves.now l.fn.seat l.seat;
      route : g.O.Orders.route l.orders ≡ g.O.Orders.route l.fn.orders;
      at : AtLine (serve_words l.self.form g.In.ReadStream.words g.Out.WriteStream.words) (words.number l.fn.seat)
          (state_of words.shown l.fn.reader l.fn.writer (seat_state (words.shown l.fn.seat) (g.O.Orders.asked l.fn.orders)))
          (state_of words.shown l.reader l.writer (seat_state (words.shown l.seat) (g.O.Orders.asked l.orders)))
          (unread_of l.lines) l.counter;
    }
