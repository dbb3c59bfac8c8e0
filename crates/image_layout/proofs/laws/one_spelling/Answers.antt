use Rattle.std.proofs.Common.{◌≡◌, ℕ, List, sym, ap, ◌∙◌}
use Rattle.image_layout.specs.Image.{ImageValue, Spells}
use Rattle.image_layout.specs.Fields.{layout_of}
use Rattle.image_layout.specs.Shown.{names_of, timetable_of}
use Rattle.image_layout.specs.Spelling.{image_in}
use Rattle.image_layout.proofs.Back.{timetable_back}
use Rattle.image_layout.proofs.BackNames.{names_back}
use Rattle.image_layout.proofs.laws.one_spelling.Goals as goal

spelled : (w : List ℕ) (image : ImageValue) → Spells w image → w ≡ image_in image.layout image.timetable image.names
spelled w image is = is.0.spelled ∙ ap (λ (layout : ℕ). image_in layout image.timetable image.names) is.1

-- what the words show
abbrev shown : List ℕ → ImageValue
shown w = record { layout = layout_of w; timetable = timetable_of w; names = names_of w }

shows : (w : List ℕ) (image : ImageValue) → Spells w image → shown w ≡ image
shows w image is =
    let t = image.timetable in
    let n = image.names in
    let layout : layout_of w ≡ image.layout = is.1 in
    let timetable : timetable_of w ≡ t =
    ap (λ (v : List ℕ). timetable_of v) is.0.spelled ∙ timetable_back (layout_of w) t n is.0.can_be in
    let names : names_of w ≡ n =
    ap (λ (v : List ℕ). names_of v) is.0.spelled ∙ names_back (layout_of w) t n is.0.layout is.0.first is.0.can_be in
    λ i. record { layout = layout i; timetable = timetable i; names = names i }

pub returns-clause-words : goal.returns-clause-words
returns-clause-words c = spelled

pub returns-clause-one : goal.returns-clause-one
returns-clause-one c = λ v w image first second. spelled v image first ∙ sym (spelled w image second)

pub returns-clause-value : goal.returns-clause-value
returns-clause-value c = λ w first second one other. sym (shows w first one) ∙ shows w second other
