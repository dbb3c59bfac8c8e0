-- An answer with its journeys, one point after the other.
use Rattle.std.proofs.Common.{◌≡◌, ℕ, zero, suc, ◌-◌, ◌<◌, List, length, get_or}
use Rattle.std.proofs.Common.{slice_get, Some, refl}
use Rattle.std.proofs.Common.{sym, ◌∙◌, ap, subst}
use Rattle.std.proofs.lemmas.Option.{slice_get-get_or}
use Rattle.std.proofs.lemmas.List.{length-reverse}
use Rattle.bags.specs.declared.point.Point.{Point}
use Rattle.timetable.specs.declared.query.Query.{Query}
use Rattle.timetable.specs.TimetableValue.{TimetableValue}
use Rattle.timetable.specs.Legal.{IsLegal}
use Rattle.sources.specs.FirstAt.{IsFirstAt}
use Rattle.profile_scan.specs.Window.{window, falling}
use Rattle.profile_scan.proofs.Windows.{window_is_read_backward}

-- how many indices a window has
length-falling : (low n : ℕ) → length (falling low n) ≡ n
length-falling low zero = refl
length-falling low (suc n) = ap suc (length-falling low n)

pub window_count : (t : TimetableValue) (q : Query) (start end : ℕ) → IsLegal t → IsFirstAt t q.from start → IsFirstAt t q.by end
    → end - start ≡ length (window t q)
window_count t q start end legal is_start is_end =
    let falls = (window_is_read_backward t legal q).falls start end is_start is_end in
    sym (length-falling start (end - start)) ∙ (ap length (sym falls) ∙ length-reverse (window t q))

-- a point that has lost its tag
abbrev pub tagless : {V : Type 0} → Point V → Point V
tagless p = record { departure = p.departure; value = p.value; tag = 0 }

-- a point read at an index
pub point_at : {V : Type 0} (points read : List (Point V)) (i : ℕ) (p : Point V)
    → read ≡ points → i < length read → p ≡ get_or read i p → slice_get points i ≡ Some p
point_at {V} points read i p same lt is =
    subst (λ (ps : List (Point V)). slice_get ps i ≡ Some p) same (slice_get-get_or read i p lt ∙ ap Some (sym is))
