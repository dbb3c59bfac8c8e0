use Rattle.std.proofs.Common.{◌≡◌, ◌∙◌, ℕ, List, IfOk, ap, string_bytes, subst}
use Rattle.image_files.specs.Naming.{name_in}
use Rattle.departure_lines.proofs.Printed.{trip_printed}
use Rattle.departure_lines.proofs.names.printed_trip_name.Goals as goal

pub returns : goal.returns
returns c =
    subst (λ (bytes : List ℕ). IfOk c.of.result (λ text. string_bytes text ≡ bytes))
    (ap (name_in c.args.names) c.in_ok-name.ensures ∙ trip_printed c.args.names c.args.image.now.names c.args.trip) c.of.ensures
