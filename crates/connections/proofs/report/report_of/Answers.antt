use Rattle.std.proofs.Common.{◌∙◌, ap, refl, List}
use Rattle.std.specs.Prelude.{count_by}
use Rattle.gtfs_tables.specs.declared.tables.Trip.{Trip}
use Rattle.connections.proofs.FinalLemmas.{lifted_counted}
use Rattle.connections.proofs.report.report_of.Goals as goal

pub returns : goal.returns
returns c = record {
  stops = c.len.ensures ∙ c.args.feed.now.stops.ok.0;
  runs = refl;
  connections = refl;
  footpaths = refl;
  lifted = c.lifted_in.ensures ∙ lifted_counted c.args.feed.now c.args.times.now c.requires;
  flex = c.flex_in.ensures ∙ ap (λ (trips : List Trip). count_by (λ trip. trip.flex) trips) c.deref.ensures.value;
  frequencies = c.repeats_in.ensures ∙ ap (λ (trips : List Trip). count_by (λ trip. trip.repeats) trips) c.deref-2.ensures.value;
  skipped = refl;
}
