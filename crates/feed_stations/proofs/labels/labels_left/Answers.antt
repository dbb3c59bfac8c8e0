use Rattle.std.proofs.Common.{◌≡◌, ◌∙◌, ◌∷◌, [], take}
use Rattle.gtfs_rows.specs.Source.{last_of, left_of}
use Rattle.gtfs_rows.proofs.FaultLemmas.{closed, opened}
use Rattle.feed_stations.specs.Labels.{IsStopLabel}
use Rattle.feed_stations.proofs.Labelled.{one_more}
use Rattle.feed_stations.proofs.labels.labels_left.Goals as goal

pub returns-then-not-found : goal.returns-then-not-found
returns-then-not-found c =
    let none : left_of c.loop-taken.records ≡ [] = rw c.if-not-found.true at (c.in_ok-found.ensures.reads c.loop-taken.invariant.reading) in
    let (short, whole) = closed c.loop-taken.taken (left_of c.args.records.now) (c.loop-taken.invariant.left ∙ none) in
    rw whole at c.loop-taken.invariant.labels

pub loop-taken-preserved : goal.loop-taken-preserved
loop-taken-preserved c =
    let next : left_of c.loop-taken.records ≡ last_of c.advance.new.self ∷ left_of c.advance.new.self =
    rw c.if-not-found.false at (c.in_ok-found.ensures.reads c.loop-taken.invariant.reading) in
    let (less, head, after, more) = opened [] c.loop-taken.taken (left_of c.args.records.now)
    (left_of c.advance.new.self) (last_of c.advance.new.self) (c.loop-taken.invariant.left ∙ next) in
    record {
      reading = c.in_ok-found.ensures.reading c.loop-taken.invariant.reading;
      left = after;
      labels = one_more (IsStopLabel c.args.columns.name c.args.columns.platform) (take c.loop-taken.taken (left_of c.args.records.now)) _
          c.loop-taken.labels.items _ (last_of c.advance.new.self) c.in_ok-label.label more c.in_ok-push.ensures.items c.loop-taken.invariant.labels
          (rw c.last.ensures at c.in_ok-label.ensures);
    }
