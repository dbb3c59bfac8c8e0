use Rattle.std.proofs.Common.{[], ◌++◌, ◌∙◌, FitsSigned, List, ap, codes, rules, string_bytes, subst, w64, ℕ, ℤ}
use Rattle.std.proofs.lemmas.Int.{to_z-of_z}
use Rattle.image_facts.specs.Base.{IsUtc}
use Rattle.image_facts.specs.Days.{HasDays, trip_days}
use Rattle.image_facts.specs.Json.{names_json, sizes_json}
use Rattle.text_pieces.specs.declared.form.Form.{Form}
use Rattle.image_facts.proofs.Grouped.{in_any_order}
use Rattle.text_pieces.proofs.Joined.{five}
use Rattle.image_facts.proofs.json.json_of.Goals as goal

pub returns : goal.returns
returns c =
    let image = c.args.image.now in
    let days = c.in_ok-append_days.ensures in
    let utc = c.in_ok-append_utc.ensures in
    let fits : FitsSigned w64 c.base.result = search rules in
    record {
      days = days.0;
      utc = utc.0;
      has_days = in_any_order Form.Json (trip_days image.names) c.in_ok-days.days.items days.0 c.in_ok-days.ensures.same
          (subst (λ (xs : List ℕ). HasDays Form.Json xs days.0) c.deref.ensures.value days.1);
      has_utc = subst (λ (n : ℤ). IsUtc Form.Json n utc.0) (to_z-of_z w64 c.base.result fits ∙ c.base.ensures) utc.1;
      parts = five [] (string_bytes c.append_sizes.new.json) (string_bytes c.append_names.new.json) (string_bytes c.append_days.new.lines)
          (string_bytes c.append_utc.new.lines) (string_bytes c.put_text.new.out) (sizes_json image) (names_json image) days.0 utc.0 (codes "}\n")
          (c.in_ok-append_sizes.ensures ∙ ap (λ o. o ++ sizes_json image) c.new-json.ensures.bytes)
          c.in_ok-append_names.ensures days.2 utc.2 c.in_ok-put_text.ensures;
    }
