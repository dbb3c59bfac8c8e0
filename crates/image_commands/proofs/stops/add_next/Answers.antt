use Rattle.std.proofs.Common.{◌∙◌, List, ℕ, subst}
use Rattle.image_commands.specs.StopLines.{IsFound}
use Rattle.image_commands.proofs.StopLines.{one_stop_more}
use Rattle.image_commands.proofs.stops.add_next.Goals as goal

pub returns : goal.returns
returns c =
    let added = c.in_ok-add_if_found.ensures in
    one_stop_more c.args.image.now.names c.args.text.now c.args.stop c.args.found.now.items c.add_if_found.new.found.items added.0
    (subst (λ (name : List ℕ). IsFound c.args.text.now (c.args.stop, name) added.0) (c.as_str.ensures.value ∙ c.in_ok-name.ensures) added.1) added.2
