use Rattle.answer_replies.proofs.OneLemmas.{answered_one_by}
use Rattle.answer_replies.proofs.laws.one_stop_is_plain.Goals as goal

pub returns : goal.returns
returns c = answered_one_by
