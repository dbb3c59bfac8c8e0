use Rattle.std.proofs.Common.{◌∙◌, ◌++◌, ap, codes, string_bytes}
use Rattle.image_facts.specs.Facts.{file_text, number_line}
use Rattle.text_pieces.proofs.Joined.{two}
use Rattle.image_facts.proofs.facts.append_file.Goals as goal

pub returns : goal.returns
unfolding file_text
returns c =
    two (string_bytes c.args.lines.now) (string_bytes c.put_line.new.lines) (string_bytes c.put_line-2.new.lines) _ _
    (c.in_ok-put_line.ensures ∙ ap (λ layout. string_bytes c.args.lines.now ++ number_line (codes "layout ") layout) c.header_of.ensures.layout)
    (c.in_ok-put_line-2.ensures ∙ ap (λ size. string_bytes c.put_line.new.lines ++ number_line (codes "bytes ") size) c.byte_count.ensures)
