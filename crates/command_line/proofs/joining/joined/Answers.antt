use Rattle.std.proofs.Common.{◌∙◌, arith}
use Rattle.command_line.proofs.Joined.{line_begun, line_ended, no_words}
use Rattle.command_line.proofs.joining.joined.Goals as goal

pub returns-in_default : goal.returns-in_default
returns-in_default g c = no_words g.S.AsStr.text c.args.words.now _ c.in_default.ensures.cases c.new.ensures.items

pub loop-word-init : goal.loop-word-init
loop-word-init g c =
    line_begun g.S.AsStr.text c.args.words.now c.in-Some.rest.now c.in-Some.program.now _ c.in_ok-from_str.field-0 _ c.in-Some.ensures.cases.0
    c.new-2.ensures.items (c.in_ok-from_str.ensures.ok ∙ c.as_str.ensures) c.first_of.ensures

pub returns : goal.returns
returns g c =
    line_ended g.S.AsStr.text c.in-Some.rest.now c.loop-word.word-index c.loop-word.line.done.items _ c.loop-word.line.last c.loop-word.line.command.now
    (omega arith) c.in_ok-push.ensures.items ∙ c.loop-word.invariant
