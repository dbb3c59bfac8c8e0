use Rattle.version_core.proofs.Rests.{start_rests, rest_stays, loads_rest, rest_is_spent, rest_is_full}
use Rattle.version_core.proofs.laws.at_rest.Goals as goal

pub returns : goal.returns
returns c = record {
  start = start_rests;
  stays = rest_stays;
  loads = loads_rest;
  spent = λ s t e kept rest step. rest_is_spent s kept rest step.0;
  full = λ s t e k counts kept rest step small other. rest_is_full s k kept rest step.1 small other;
}
