use Rattle.std.proofs.Common.{[], refl}
use Rattle.version_core.proofs.Runs.{list_grows, list_grows_by_run, list_grows_with_replies, runs_join, runs_part}
use Rattle.version_core.proofs.laws.runs_in_parts.Goals as goal

pub returns : goal.returns
returns c = record {
  begin = λ s. record { replies = []; run = refl };
  grow = list_grows;
  grow_by_run = list_grows_by_run;
  grow_with_replies = list_grows_with_replies;
  join = runs_join;
  part = runs_part;
}
