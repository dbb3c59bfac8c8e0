use Rattle.std.proofs.Common.{◌∙◌}
use Rattle.command_line.proofs.Joined.{first_word}
use Rattle.command_line.proofs.joining.first_of.Goals as goal

pub returns-in-Some : goal.returns-in-Some
returns-in-Some g c = c.as_str.ensures ∙ first_word g.S.AsStr.text c.args.words.now _ c.in-Some.ensures.value

pub returns-in-None : goal.returns-in-None
returns-in-None g c = first_word g.S.AsStr.text c.args.words.now _ c.in-None.ensures.value
