use Rattle.std.proofs.Common.{string_bytes}
use Rattle.csa_program.specs.Logging.{begin_text}
use Rattle.text_pieces.proofs.Joined.{two}
use Rattle.csa_program.proofs.logging.put_begin.Goals as goal

pub returns : goal.returns
unfolding begin_text
returns c = two (string_bytes c.args.line.now) (string_bytes c.put_number.new.out) _ _ _ c.in_ok-put_number.ensures c.in_ok-put_text.ensures
