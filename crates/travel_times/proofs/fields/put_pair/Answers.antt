use Rattle.std.proofs.Common.{◌∙◌, OnOk, ap, refl, subst}
use Rattle.csv.specs.Writing.{default_writer, row_text}
use Rattle.travel_times.specs.Fields.{clock_field, departure_of, number_field, pair_fields}
use Rattle.travel_times.specs.Rows.{Adds}
use Rattle.travel_times.proofs.SameFields.{same_field}
use Rattle.travel_times.proofs.fields.put_pair.Goals as goal

pub returns : goal.returns
unfolding pair_fields
returns c =
    subst (λ fields. OnOk c.put.result (Adds c.args.rows.now c.put.new.self (row_text default_writer fields)))
    (same_field c.as_bytes.ensures.value
    (same_field c.as_bytes-2.ensures.value
    (same_field c.number_field.ensures
    (same_field (c.field.ensures ∙ ap clock_field (c.departure_of.ensures ∙ ap departure_of c.first.ensures.value))
    (same_field (c.field-2.ensures ∙ ap clock_field (c.departure_of-2.ensures ∙ ap departure_of c.last.ensures.value))
    (same_field (c.number_field-2.ensures ∙ ap number_field (c.wide.ensures ∙ c.least_travel.ensures))
    (same_field c.number_field-3.ensures
    (same_field (c.number_field-4.ensures ∙ ap number_field c.wide-2.ensures) refl))))))))
    c.put.ensures
