use Rattle.std.proofs.Common.{ap, append-nil, refl, sym, subst}
use Rattle.std.specs.Prelude.{None}
use Rattle.feed_files.specs.Reads.{SomeWereRead}
use Rattle.feed_loads.proofs.carrying.LoadContext.load_planned.Goals as goal

-- without a plan nothing is read
pub returns-in-Err-clause-load : goal.returns-in-Err-clause-load
returns-in-Err-clause-load g c =
    let possible = c.in-Err.ensures.plan in
    let words = g.F.Files.FeedFiles.words in
    let reads = words.reads c.args.files.now.first.value in
    let unread = c.requires.unread.as_drawn in
    let none : SomeWereRead reads reads = (0, λ table. None, sym (append-nil reads)) in (
      possible.0,
      possible.1,
      record {
        first = refl;
        end = refl;
        comes = record {
          comes = (subst (λ now. SomeWereRead reads (words.reads now)) (sym unread) none, λ content shows not. absurd (not refl), refl);
          files = record { holds = ap words.holds unread; failed = ap words.failed unread };
        };
      },
    )
