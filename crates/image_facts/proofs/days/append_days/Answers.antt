use Rattle.std.proofs.Common.{refl}
use Rattle.image_facts.specs.Entries.{rest_text}
use Rattle.image_facts.proofs.Grouped.{has_days}
use Rattle.image_facts.proofs.days.append_days.Goals as goal

pub returns : goal.returns
returns c = (
  rest_text c.args.form 0 c.args.days.now,
  has_days c.args.form c.args.days.now (rest_text c.args.form 0 c.args.days.now) c.requires refl,
  c.in_ok-append_entries.ensures,
)
