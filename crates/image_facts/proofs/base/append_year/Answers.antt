use Rattle.std.proofs.Common.{◌≡◌, ◌++◌, ◌%◌, ◌/◌, ℕ, string_bytes, subst, w16, ℤ}
use Rattle.std.specs.Prelude.{unsigned_abs}
use Rattle.std.proofs.lemmas.Int.{to_z-of_z}
use Rattle.timetable.specs.Clocks.{two_digits}
use Rattle.image_facts.specs.Base.{sign_text, year_text}
use Rattle.text_pieces.proofs.Joined.{three}
use Rattle.image_facts.proofs.base.append_year.Goals as goal

pub returns : goal.returns
unfolding year_text
returns c =
    let same = to_z-of_z w16 c.args.year c.ranges.year in
    let number : c.unsigned_abs-number.result ≡ unsigned_abs c.args.year =
    subst (λ (y : ℤ). c.unsigned_abs-number.result ≡ unsigned_abs y) same c.unsigned_abs-number.ensures.value in
    three (string_bytes c.args.lines.now) (string_bytes c.put_sign.new.lines) (string_bytes c.put_two.new.out)
    (string_bytes c.put_two-2.new.out) _ _ _
    (subst (λ (y : ℤ). string_bytes c.put_sign.new.lines ≡ string_bytes c.args.lines.now ++ sign_text y) same c.in_ok-put_sign.ensures)
    (subst (λ (n : ℕ). string_bytes c.put_two.new.out ≡ string_bytes c.put_sign.new.lines ++ two_digits (n / 100)) number c.in_ok-put_two.ensures)
    (subst (λ (n : ℕ). string_bytes c.put_two-2.new.out ≡ string_bytes c.put_two.new.out ++ two_digits (n % 100)) number c.in_ok-put_two-2.ensures)
