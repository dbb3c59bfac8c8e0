use Rattle.std.proofs.Common.{◌≡◌, List, ℕ, sym, subst, ap, ◌∙◌}
use Rattle.timetable.specs.TimetableValue.{TimetableValue}
use Rattle.timetable.specs.NamesValue.{NamesValue}
use Rattle.image_layout.specs.Shown.{timetable_of, names_of}
use Rattle.image_layout.specs.Image.{HasImage}
use Rattle.image_verifier.proofs.ImageLemmas.{IsImage-from}
use Rattle.image_verifier.proofs.verified.Verified.to_timetable.Goals as goal

pub returns-clause-kept : goal.returns-clause-kept
returns-clause-kept c =
    let w = c.self.inside.words.items in
    let timetable : c.in_ok-timetable.timetable ≡ timetable_of w = c.in_ok-timetable.ensures ∙ ap (λ (x : List ℕ). timetable_of x) c.deref.ensures.value in
    let names : c.in_ok-names.names ≡ names_of w = c.in_ok-names.ensures ∙ ap (λ (x : List ℕ). names_of x) c.deref-2.ensures.value in
    subst (λ (t : TimetableValue). HasImage t c.in_ok-names.names) (sym timetable)
    (subst (λ (n : NamesValue). HasImage (timetable_of w) n) (sym names) (IsImage-from w c.self.invariant).can_be)
