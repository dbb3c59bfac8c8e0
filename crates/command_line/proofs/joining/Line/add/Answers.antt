use Rattle.std.proofs.Common.{◌++◌, ◌∙◌, ◌∷◌, Global, [], ap, codes, string_bytes, sym}
use Rattle.std.specs.Prelude.{String}
use Rattle.std.specs.Str.{bytes_eq}
use Rattle.clap.specs.Words.{Text}
use Rattle.command_line.specs.Joining.{is_stop_id}
use Rattle.command_line.proofs.Joined.{chosen, left, value_more, word_more}
use Rattle.command_line.proofs.joining.Line.add.Goals as goal

pub returns-then-is_stop_id : goal.returns-then-is_stop_id
returns-then-is_stop_id c =
    value_more _ _ _ _ _ (c.in_ok-push_str-2.ensures.bytes ∙ ap (λ (t : Text). t ++ c.args.word.now) c.in_ok-push_str.ensures.bytes)
    (ap (λ (t : Text). is_stop_id c.args.self.now.command.now t c.args.word.now) (sym c.as_str.ensures.value)
    ∙ sym c.is_stop_id.ensures ∙ c.if-is_stop_id.true)

pub returns-then-eq : goal.returns-then-eq
returns-then-eq c =
    word_more _ _ _ c.replace.new.dest _ _ _
    (c.in_ok-push.ensures.items ∙ ap (λ (s : String Global). c.args.self.now.done.items ++ s ∷ []) c.replace.ensures.value)
    (ap string_bytes c.replace.ensures.after ∙ c.in_ok-word_read.ensures.ok)
    (chosen (bytes_eq c.args.word.now (codes "--")) [] c.args.self.now.command.now (sym c.eq.ensures ∙ c.if-eq.true))
    (ap (λ (t : Text). is_stop_id c.args.self.now.command.now t c.args.word.now) (sym c.as_str.ensures.value)
    ∙ sym c.is_stop_id.ensures ∙ c.if-is_stop_id.false)

pub returns-else-eq : goal.returns-else-eq
returns-else-eq c =
    word_more _ _ _ c.replace.new.dest _ _ _
    (c.in_ok-push.ensures.items ∙ ap (λ (s : String Global). c.args.self.now.done.items ++ s ∷ []) c.replace.ensures.value)
    (ap string_bytes c.replace.ensures.after ∙ c.in_ok-word_read.ensures.ok)
    (left (bytes_eq c.args.word.now (codes "--")) [] c.args.self.now.command.now (sym c.eq.ensures ∙ c.if-eq.false))
    (ap (λ (t : Text). is_stop_id c.args.self.now.command.now t c.args.word.now) (sym c.as_str.ensures.value)
    ∙ sym c.is_stop_id.ensures ∙ c.if-is_stop_id.false)
