use Rattle.std.proofs.Common.{List, ℕ, refl, sym, subst}
use Rattle.image_layout.specs.Fields.{layout_of}
use Rattle.image_layout.specs.Image.{ImageValue, Spells}
use Rattle.image_layout.specs.Shown.{timetable_of, names_of}
use Rattle.image_verifier.proofs.ImageLemmas.{IsImage-from}
use Rattle.image_verifier.proofs.verified.Verified.words.Goals as goal

pub returns : goal.returns
returns c =
    let w = c.self.inside.words.items in
    let shown : ImageValue = record { layout = layout_of w; timetable = timetable_of w; names = names_of w } in
    subst (λ (v : ImageValue). Spells c.deref.result.now v) c.self.view_is
    (subst (λ (x : List ℕ). Spells x shown) (sym c.deref.ensures.value) (IsImage-from w c.self.invariant, refl))
