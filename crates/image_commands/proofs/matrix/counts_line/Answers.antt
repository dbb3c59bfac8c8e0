use Rattle.std.proofs.Common.{◌++◌, ◌∙◌, [], ap, codes, decimal, string_bytes}
use Rattle.image_commands.specs.Matrices.{counts_text}
use Rattle.text_pieces.proofs.Joined.{three}
use Rattle.image_commands.proofs.matrix.counts_line.Goals as goal

pub returns : goal.returns
unfolding counts_text
returns c =
    three [] (string_bytes c.put_number.new.out) (string_bytes c.put_number-2.new.out) (string_bytes c.put_text.new.out)
    (codes "targets " ++ decimal c.args.targets) (codes " sources " ++ decimal c.args.sources) (codes "\n")
    (c.in_ok-put_number.ensures ∙ ap (λ o. o ++ (codes "targets " ++ decimal c.args.targets)) c.new-line.ensures.bytes)
    c.in_ok-put_number-2.ensures c.in_ok-put_text.ensures
