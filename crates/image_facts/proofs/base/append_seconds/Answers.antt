use Rattle.std.proofs.Common.{◌≡◌, ◌++◌, codes, string_bytes, subst, w64, ℤ}
use Rattle.std.specs.Fmt.{signed_decimal}
use Rattle.std.proofs.lemmas.Int.{to_z-of_z}
use Rattle.image_facts.specs.Base.{base_line}
use Rattle.text_pieces.proofs.Joined.{two}
use Rattle.image_facts.proofs.base.append_seconds.Goals as goal

pub returns : goal.returns
unfolding base_line
returns c =
    two (string_bytes c.args.lines.now) (string_bytes c.put_signed.new.lines) (string_bytes c.put_text.new.out) _ _
    (subst (λ (n : ℤ). string_bytes c.put_signed.new.lines ≡ string_bytes c.args.lines.now ++ (codes "base " ++ signed_decimal n))
    (to_z-of_z w64 c.args.base c.ranges.base) c.in_ok-put_signed.ensures)
    c.in_ok-put_text.ensures
