use Rattle.std.proofs.Common.{refl}
use Rattle.session.proofs.LearnLemmas.{learning_tells, learns_same}
use Rattle.workers.proofs.serving.SessionWorker.serve_client.Goals as goal

-- the client's own reader and writer were served
pub returns-in-Ok-clause-session : goal.returns-in-Ok-clause-session
returns-in-Ok-clause-session g c =
    let is = c.serve-outcome.ensures in
    record {
      served = record {
        opened = (c.in-Ok.reader, c.in-Ok.writer);
        opens = c.in-Ok.ensures;
        was = c.new-streams.result;
        new = c.new-streams.ensures;
        result = c.serve-outcome.result;
        last = is.session.0;
        end_is = c.end_of.ensures;
        released = is.session.1;
        serves = is.session.2;
      };
      number = is.seat.number;
      learns = is.seat.learns;
      profiles = is.profiles;
      idle = λ none. is.released;
    }

-- nothing was done
pub returns-in-Err-clause-session : goal.returns-in-Err-clause-session
returns-in-Err-clause-session g c =
    let known = g.T.Versions.words.known c.args.seat.now in
    let shown = g.T.Versions.words.shown c.args.seat.now in
    record {
      served = record { fault = c.in-Err.field-0; opens = c.in-Err.ensures; end_is = refl; same = refl };
      number = refl;
      learns = learns_same known shown;
      profiles = learning_tells known known shown shown (learns_same known shown);
      idle = λ none. none;
    }
