use Rattle.version_core.proofs.Keeps.{start_kept, step_kept}
use Rattle.version_core.proofs.Runs.{step_later, opens_with_edition}
use Rattle.version_core.proofs.Replies.{one_reply}
use Rattle.version_core.proofs.laws.every_step.Goals as goal

pub returns : goal.returns
returns c = record {
  start = start_kept;
  kept = λ s t e r kept step. step_kept s e r t kept step;
  later = λ s t e r kept step. step_later s e r t kept step;
  opened = opens_with_edition;
  reply = one_reply;
}
