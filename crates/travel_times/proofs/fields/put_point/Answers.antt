use Rattle.std.proofs.Common.{◌∙◌, OnOk, ap, decimal, refl, subst}
use Rattle.csv.specs.Writing.{default_writer, row_text}
use Rattle.travel_times.specs.Fields.{number_field, point_fields}
use Rattle.travel_times.specs.Rows.{Adds}
use Rattle.travel_times.proofs.SameFields.{same_field}
use Rattle.travel_times.proofs.fields.put_point.Goals as goal

pub returns : goal.returns
unfolding point_fields
returns c =
    subst (λ fields. OnOk c.put.result (Adds c.args.rows.now c.put.new.self (row_text default_writer fields)))
    (same_field c.as_bytes.ensures.value
    (same_field c.as_bytes-2.ensures.value
    (same_field c.field.ensures
    (same_field c.field-2.ensures
    (same_field (c.number_field.ensures ∙ ap decimal (c.from-lasts.ensures ∙ c.saturating_sub.ensures))
    (same_field (c.number_field-2.ensures ∙ ap number_field c.wide.ensures)
    (same_field (c.number_field-3.ensures ∙ ap number_field c.wide-2.ensures) refl)))))))
    c.put.ensures
