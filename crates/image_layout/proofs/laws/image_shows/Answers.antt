use Rattle.std.proofs.Common.{ap, sym, subst, ◌∙◌, List, ℕ}
use Rattle.image_layout.specs.Offsets.{IsWhole}
use Rattle.image_layout.specs.Fields.{layout_of}
use Rattle.image_layout.specs.Shown.{timetable_of, names_of}
use Rattle.image_layout.proofs.Back.{image_is_whole, timetable_back}
use Rattle.image_layout.proofs.BackNames.{names_back}
use Rattle.image_layout.proofs.laws.image_shows.Goals as goal

pub returns-clause-whole : goal.returns-clause-whole
returns-clause-whole c = λ w t n is. subst (λ (v : List ℕ). IsWhole v) (sym is.spelled) (image_is_whole (layout_of w) t n is.can_be)

pub returns-clause-timetable : goal.returns-clause-timetable
returns-clause-timetable c = λ w t n is. ap (λ (v : List ℕ). timetable_of v) is.spelled ∙ timetable_back (layout_of w) t n is.can_be

pub returns-clause-names : goal.returns-clause-names
returns-clause-names c = λ w t n is. ap (λ (v : List ℕ). names_of v) is.spelled ∙ names_back (layout_of w) t n is.layout is.first is.can_be
