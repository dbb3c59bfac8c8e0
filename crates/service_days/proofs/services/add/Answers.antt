use Rattle.std.proofs.Common.{arith}
use Rattle.std.proofs.lemmas.Grind.{text_groups}
use Rattle.service_days.proofs.services.add.Goals as goal

pub returns-clause-adds : goal.returns-clause-adds
returns-clause-adds c = grind (arith, text_groups)
