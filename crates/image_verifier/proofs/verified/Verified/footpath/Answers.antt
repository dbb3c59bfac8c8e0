use Rattle.std.proofs.Common.{◌<◌, List, ℕ, length, sym, subst, ap, ◌∙◌, arith}
use Rattle.std.specs.Prelude.{slice_get, slice_index}
use Rattle.image_layout.specs.Image.{ImageValue}
use Rattle.image_layout.specs.Shown.{footpaths_of}
use Rattle.image_verifier.proofs.ShownLemmas.{walks_count}
use Rattle.image_verifier.proofs.verified.Verified.footpath.Goals as goal

pub footpath_at-requires-clause-within : goal.footpath_at-requires-clause-within
footpath_at-requires-clause-within c =
    let w = c.self.inside.words.items in
    let e = ap (λ (v : ImageValue). length v.timetable.footpaths) c.self.view_is in
    subst (λ (x : List ℕ). c.args.position < slice_index x 5) (sym c.deref.ensures.value) (omega (arith, e, walks_count w c.self.invariant, c.requires))

pub returns : goal.returns
returns c =
    ap (λ (v : ImageValue). slice_get v.timetable.footpaths c.args.position) (sym c.self.view_is)
    ∙ ap (λ (w : List ℕ). slice_get (footpaths_of w) c.args.position) (sym c.deref.ensures.value)
    ∙ c.footpath_at.ensures
