use Rattle.std.proofs.Common.{◌≡◌, ◌++◌, FitsSigned, rules, string_bytes, subst, w16, ℤ}
use Rattle.std.proofs.lemmas.Int.{to_z-of_z}
use Rattle.image_facts.specs.Base.{date_text, year_text}
use Rattle.text_pieces.proofs.Joined.{five}
use Rattle.image_facts.proofs.base.append_date.Goals as goal

pub returns : goal.returns
unfolding date_text
returns c =
    let fits : FitsSigned w16 c.args.date.year = search rules in
    five (string_bytes c.args.lines.now) (string_bytes c.append_year.new.lines) (string_bytes c.put_text.new.out)
    (string_bytes c.put_two.new.out) (string_bytes c.put_text-2.new.out) (string_bytes c.put_two-2.new.out) _ _ _ _ _
    (subst (λ (year : ℤ). string_bytes c.append_year.new.lines ≡ string_bytes c.args.lines.now ++ year_text year)
    (to_z-of_z w16 c.args.date.year fits) c.in_ok-append_year.ensures)
    c.in_ok-put_text.ensures c.in_ok-put_two.ensures c.in_ok-put_text-2.ensures c.in_ok-put_two-2.ensures
