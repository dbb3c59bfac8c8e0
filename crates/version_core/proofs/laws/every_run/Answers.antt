use Rattle.version_core.proofs.Keeps.{held_known}
use Rattle.version_core.proofs.Runs.{reached_kept, run_later, edition_later, asked, one_run}
use Rattle.version_core.proofs.laws.every_run.Goals as goal

pub returns : goal.returns
returns c = record {
  kept = reached_kept;
  counts = λ s k kept small. kept.counts.each k (rw kept.shelves.eight at small);
  held = λ s w k v kept holds. (held_known s w k v kept holds).0;
  later = λ s t es rs kept run. run_later s es rs t kept run;
  editions = λ s t es rs v e kept run is. edition_later s t v e (run_later s es rs t kept run) is;
  asks = asked;
  replies = one_run;
}
