use Rattle.version_core.proofs.Rising.{rise_at}
use Rattle.version_core.proofs.Runs.{looks_after}
use Rattle.version_core.proofs.laws.notices.Goals as goal

pub returns : goal.returns
returns c = record {
  versions = λ s v kept noted. (rise_at 0 s.notices s.current noted.0 v kept.notices noted.1).1;
  looks = looks_after;
}
