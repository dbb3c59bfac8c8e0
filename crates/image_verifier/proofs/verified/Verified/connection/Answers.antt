use Rattle.std.proofs.Common.{◌<◌, List, ℕ, Some, length, sym, subst, ap, ◌∙◌, arith}
use Rattle.std.specs.Prelude.{slice_index, slice_get}
use Rattle.image_layout.specs.Shown.{connection_of}
use Rattle.image_layout.specs.Image.{ImageValue}
use Rattle.image_layout.proofs.Whole.{length-connections_of, connection_is}
use Rattle.image_verifier.proofs.verified.Verified.connection.Goals as goal

pub connection_at-requires-clause-within : goal.connection_at-requires-clause-within
connection_at-requires-clause-within c =
    let w = c.self.inside.words.items in
    let e = ap (λ (v : ImageValue). length v.timetable.connections) c.self.view_is in
    subst (λ (x : List ℕ). c.args.i < slice_index x 4) (sym c.deref.ensures.value) (omega (arith, e, length-connections_of w, c.requires))

pub returns : goal.returns
returns c =
    let w = c.self.inside.words.items in
    let e = ap (λ (v : ImageValue). length v.timetable.connections) c.self.view_is in
    let at = connection_is w c.args.i (omega (arith, e, length-connections_of w, c.requires)) in
    ap (λ (v : ImageValue). slice_get v.timetable.connections c.args.i) (sym c.self.view_is) ∙ at
    ∙ ap Some (ap (λ (x : List ℕ). connection_of x c.args.i) (sym c.deref.ensures.value)
    ∙ sym c.connection_at.ensures)
