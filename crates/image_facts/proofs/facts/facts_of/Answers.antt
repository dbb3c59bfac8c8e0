use Rattle.std.proofs.Common.{[], ◌++◌, ◌∙◌, FitsSigned, List, ap, rules, string_bytes, subst, w64, ℕ, ℤ}
use Rattle.std.proofs.lemmas.Int.{to_z-of_z}
use Rattle.image_facts.specs.Base.{HasBase}
use Rattle.image_facts.specs.Days.{HasDays, trip_days}
use Rattle.text_pieces.specs.declared.form.Form.{Form}
use Rattle.image_facts.specs.Facts.{counts_text, file_text}
use Rattle.image_facts.proofs.Grouped.{in_any_order}
use Rattle.text_pieces.proofs.Joined.{four}
use Rattle.image_facts.proofs.facts.facts_of.Goals as goal

pub returns : goal.returns
returns c =
    let image = c.args.image.now in
    let base = c.in_ok-append_base.ensures in
    let days = c.in_ok-append_days.ensures in
    let fits : FitsSigned w64 c.base.result = search rules in
    record {
      base = base.0;
      days = days.0;
      has_base = subst (λ (n : ℤ). HasBase n base.0) (to_z-of_z w64 c.base.result fits ∙ c.base.ensures) base.1;
      has_days = in_any_order Form.Lines (trip_days image.names) c.in_ok-days.days.items days.0 c.in_ok-days.ensures.same
          (subst (λ (xs : List ℕ). HasDays Form.Lines xs days.0) c.deref.ensures.value days.1);
      parts = four [] (string_bytes c.append_file.new.lines) (string_bytes c.append_base.new.lines) (string_bytes c.append_counts.new.lines)
          (string_bytes c.append_days.new.lines) (file_text image) base.0 (counts_text image) days.0
          (c.in_ok-append_file.ensures ∙ ap (λ o. o ++ file_text image) c.new-lines.ensures.bytes)
          base.2 c.in_ok-append_counts.ensures days.2;
    }
