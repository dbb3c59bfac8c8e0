use Rattle.std.proofs.Common.{◌∙◌, arith}
use Rattle.std.proofs.lemmas.Grind.{text_groups}
use Rattle.service_days.proofs.services.weeks_of.Goals as goal

pub loop-row-preserved : goal.loop-row-preserved
loop-row-preserved c = record {
  held = grind (arith, text_groups);
  hash = c.in_ok-add.ensures.hash ∙ c.loop-row.invariant.hash;
}
