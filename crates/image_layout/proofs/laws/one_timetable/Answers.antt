use Rattle.std.proofs.Common.{ap, sym, ◌∙◌, List, ℕ}
use Rattle.image_layout.specs.Fields.{layout_of}
use Rattle.image_layout.specs.Shown.{timetable_of, names_of}
use Rattle.image_layout.proofs.Back.{timetable_back}
use Rattle.image_layout.proofs.BackNames.{names_back}
use Rattle.image_layout.proofs.laws.one_timetable.Goals as goal

pub returns : goal.returns
returns c = λ w t u n m first second. (
  sym (timetable_back (layout_of w) t n first.can_be)
      ∙ ap (λ (v : List ℕ). timetable_of v) (sym first.spelled ∙ second.spelled)
      ∙ timetable_back (layout_of w) u m second.can_be,
  sym (names_back (layout_of w) t n first.layout first.first first.can_be)
      ∙ ap (λ (v : List ℕ). names_of v) (sym first.spelled ∙ second.spelled)
      ∙ names_back (layout_of w) u m second.layout second.first second.can_be,
)
