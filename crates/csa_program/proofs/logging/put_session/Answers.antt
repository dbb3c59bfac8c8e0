use Rattle.std.proofs.Common.{◌++◌, ◌∙◌, ap, codes, string_bytes}
use Rattle.csa_program.specs.Logging.{session_text}
use Rattle.text_pieces.proofs.Joined.{three}
use Rattle.csa_program.proofs.logging.put_session.Goals as goal

pub returns : goal.returns
unfolding session_text
returns c =
    three (string_bytes c.args.line.now) (string_bytes c.put_number.new.out) (string_bytes c.put_word.new.out) (string_bytes c.put_number-2.new.out) _ _ _
    c.in_ok-put_number.ensures
    (c.in_ok-put_word.ensures ∙ ap (λ word. string_bytes c.put_number.new.out ++ (codes " " ++ word)) c.word_of.ensures)
    c.in_ok-put_number-2.ensures
