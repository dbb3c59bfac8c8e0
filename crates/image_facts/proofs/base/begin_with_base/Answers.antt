use Rattle.std.proofs.Common.{◌≡◌, ◌++◌, refl, string_bytes, subst, w64, ℤ}
use Rattle.std.proofs.lemmas.Int.{to_z-of_z}
use Rattle.image_facts.specs.Base.{IsUtc, base_member}
use Rattle.text_pieces.specs.declared.form.Form.{Form}
use Rattle.text_pieces.proofs.Joined.{two}
use Rattle.image_facts.proofs.base.begin_with_base.Goals as goal

pub returns : goal.returns
returns c =
    let same = to_z-of_z w64 c.args.base c.ranges.base in
    let utc = c.in_ok-append_utc.ensures in (
      base_member c.args.base ++ utc.0,
      (utc.0, subst (λ (n : ℤ). IsUtc Form.Json n utc.0) same utc.1, refl),
      two (string_bytes c.args.json.now) (string_bytes c.put_signed.new.lines) (string_bytes c.append_utc.new.lines) (base_member c.args.base) utc.0
          (subst (λ (n : ℤ). string_bytes c.put_signed.new.lines ≡ string_bytes c.args.json.now ++ base_member n) same c.in_ok-put_signed.ensures)
          utc.2,
    )
