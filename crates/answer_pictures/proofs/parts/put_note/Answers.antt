use Rattle.std.proofs.Common.{string_bytes}
use Rattle.answer_pictures.specs.Pictures.{note_text}
use Rattle.answer_pictures.proofs.Joined.{three}
use Rattle.answer_pictures.proofs.parts.put_note.Goals as goal

pub returns : goal.returns
unfolding note_text
returns c =
    three (string_bytes c.args.out.now) (string_bytes c.put_element.new.out) (string_bytes c.put_cut.new.out)
    (string_bytes c.put_text.new.out) _ _ _
    c.in_ok-put_element.ensures c.in_ok-put_cut.ensures c.in_ok-put_text.ensures
