use Rattle.std.proofs.Common.{List, ℕ, length, sym, ap, ◌∙◌}
use Rattle.std.specs.Prelude.{slice_index}
use Rattle.image_layout.specs.declared.header.Header.{Header}
use Rattle.image_layout.specs.Image.{ImageValue}
use Rattle.image_verifier.proofs.ShownLemmas.{walks_count}
use Rattle.image_verifier.proofs.verified.Verified.footpath_count.Goals as goal

pub returns : goal.returns
returns c =
    let w = c.self.inside.words.items in
    ap (λ (h : Header). h.footpaths) c.of.ensures ∙ ap (λ (x : List ℕ). slice_index x 5) c.deref.ensures.value
    ∙ sym (walks_count w c.self.invariant) ∙ ap (λ (v : ImageValue). length v.timetable.footpaths) c.self.view_is
