use Rattle.std.proofs.Common.{◌≡◌, ◌∙◌, ◌++◌, FitsSigned, ap, codes, decimal, rules, string_bytes, subst, w64, ℤ}
use Rattle.std.specs.Fmt.{signed_decimal}
use Rattle.std.proofs.lemmas.Int.{to_z-of_z}
use Rattle.image_facts.specs.Json.{sizes_json}
use Rattle.text_pieces.proofs.Joined.{four}
use Rattle.image_facts.proofs.json.append_sizes.Goals as goal

pub returns : goal.returns
unfolding sizes_json
returns c =
    let fits : FitsSigned w64 c.base.result = search rules in
    four (string_bytes c.args.json.now) (string_bytes c.put_signed.new.lines) (string_bytes c.put_number.new.out)
    (string_bytes c.put_number-2.new.out) (string_bytes c.put_number-3.new.out) _ _ _ _
    (subst (λ (n : ℤ). string_bytes c.put_signed.new.lines ≡ string_bytes c.args.json.now ++ (codes "{\"base\":" ++ signed_decimal n))
    (to_z-of_z w64 c.base.result fits ∙ c.base.ensures) c.in_ok-put_signed.ensures)
    (c.in_ok-put_number.ensures ∙ ap (λ n. string_bytes c.put_signed.new.lines ++ (codes ",\"bytes\":" ++ decimal n)) c.byte_count.ensures)
    (c.in_ok-put_number-2.ensures ∙ ap (λ n. string_bytes c.put_number.new.out ++ (codes ",\"connections\":" ++ decimal n)) c.len.ensures)
    (c.in_ok-put_number-3.ensures ∙ ap (λ n. string_bytes c.put_number-2.new.out ++ (codes ",\"footpaths\":" ++ decimal n)) c.footpath_count.ensures)
