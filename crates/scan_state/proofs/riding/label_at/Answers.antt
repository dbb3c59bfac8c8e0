use Rattle.std.proofs.Common.{sym, ◌∙◌, ap}
use Rattle.std.proofs.lemmas.Option.{slice_get-map, slice_get-get_or}
use Rattle.std.specs.Prelude.{option_map, Some}
use Rattle.scan_state.proofs.LabelLemmas.{as_point}
use Rattle.scan_state.proofs.riding.label_at.Goals as goal

pub returns : goal.returns
returns g c =
    let labels = c.args.labels.now in
    let label = c.index-labels-k.result in
    slice_get-map as_point labels c.args.k
    ∙ ap (option_map as_point) (slice_get-get_or labels c.args.k label c.requires
    ∙ ap Some (sym c.index-labels-k.is)) ∙ ap Some (sym c.label_point.ensures)
