use Rattle.std.proofs.Common.{inl, inr, refl}
use Rattle.std.proofs.lemmas.Result.{err_from_is_err_and, IfOk-weaker, IfErr-weaker}
use Rattle.feed_loader.proofs.LoadLemmas.{refusal_of}
use Rattle.feed_loader.proofs.loading.load.Goals as goal

-- the files are refused as they are read
pub returns-in_err-tables-clause-end : goal.returns-in_err-tables-clause-end
returns-in_err-tables-clause-end g c = λ content shows.
    let outcome = err_from_is_err_and c.from_residual.result c.from_residual.ensures.1 in
    rw (outcome.1, outcome.2) (inl (record {
      refusal = c.in_err-tables.field-0.0;
      is = refl;
      first = c.in_err-tables.ensures.err content shows;
    }))

pub returns-in_err-tables-clause-err : goal.returns-in_err-tables-clause-err
returns-in_err-tables-clause-err g c = λ content shows.
    IfErr-weaker c.from_residual.result _ _ (refusal_of content c.args.plan.now) (returns-in_err-tables-clause-end g c content shows)

-- the tables are read, and don't join
pub returns-in_err-feed-clause-end : goal.returns-in_err-feed-clause-end
returns-in_err-feed-clause-end g c = λ content shows.
    let outcome = err_from_is_err_and c.from_residual-in_err-feed.result c.from_residual-in_err-feed.ensures.1 in
    rw (outcome.1, outcome.2) (inr (inl (record {
      t = c.in_ok-tables.tables;
      held = c.in_ok-tables.ensures.ok content shows;
      refusal = c.in_err-feed.field-0.0;
      is = refl;
      first = c.in_err-feed.ensures.err;
    })))

pub returns-in_err-feed-clause-err : goal.returns-in_err-feed-clause-err
returns-in_err-feed-clause-err g c = λ content shows.
    IfErr-weaker c.from_residual-in_err-feed.result _ _ (refusal_of content c.args.plan.now) (returns-in_err-feed-clause-end g c content shows)

pub returns-clause-ok : goal.returns-clause-ok
returns-clause-ok g c = λ content shows.
    IfOk-weaker c.image_of.result _ _ (λ made is. record {
      feed = c.in_ok-feed.feed;
      read =
          record {
            t = c.in_ok-tables.tables;
            held = c.in_ok-tables.ensures.ok content shows;
            joined =
                c.in_ok-feed.ensures.ok;
          };
      made = is;
    }) c.image_of.ensures.ok

-- they are joined, and no image is made
pub returns-clause-end : goal.returns-clause-end
returns-clause-end g c = λ content shows.
    IfErr-weaker c.image_of.result _ _ (λ fault why. inr (inr (record {
      feed = c.in_ok-feed.feed;
      read =
          record {
            t = c.in_ok-tables.tables;
            held = c.in_ok-tables.ensures.ok content shows;
            joined =
                c.in_ok-feed.ensures.ok;
          };
      why = why;
    }))) c.image_of.ensures.err

pub returns-clause-err : goal.returns-clause-err
returns-clause-err g c = λ content shows.
    IfErr-weaker c.image_of.result _ _ (refusal_of content c.args.plan.now) (returns-clause-end g c content shows)
