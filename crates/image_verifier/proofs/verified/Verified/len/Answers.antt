use Rattle.std.proofs.Common.{List, ℕ, length, sym, ap, ◌∙◌}
use Rattle.std.specs.Prelude.{slice_index}
use Rattle.image_layout.specs.declared.header.Header.{Header}
use Rattle.image_layout.specs.Image.{ImageValue}
use Rattle.image_layout.proofs.Whole.{length-connections_of}
use Rattle.image_verifier.proofs.verified.Verified.len.Goals as goal

pub returns : goal.returns
returns c =
    let w = c.self.inside.words.items in
    ap (λ (h : Header). h.connections) c.of.ensures ∙ ap (λ (x : List ℕ). slice_index x 4) c.deref.ensures.value
    ∙ sym (length-connections_of w) ∙ ap (λ (v : ImageValue). length v.timetable.connections) c.self.view_is
