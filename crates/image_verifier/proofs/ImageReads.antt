-- What the words of an image say of its departures.
use Rattle.std.proofs.Common.{◌≡◌, ℕ, ◌<◌, List, length, sym, ap, subst, ◌∙◌, arith}
use Rattle.timetable.specs.declared.network.Connection.{Connection}
use Rattle.timetable.specs.TimetableValue.{TimetableValue}
use Rattle.timetable.specs.NamesValue.{NamesValue}
use Rattle.timetable.specs.Legal.{At}
use Rattle.timetable.specs.Journeys.{connection_at}
use Rattle.timetable.proofs.LegalLemmas.{connection_at-is}
use Rattle.image_layout.specs.Offsets.{IsWhole, header_of}
use Rattle.image_layout.specs.Fields.{layout_of, dep_of}
use Rattle.image_layout.specs.Shown.{connection_of, connections_of}
use Rattle.image_layout.specs.Image.{IsImage}
use Rattle.image_layout.proofs.Back.{image_is_whole}
use Rattle.image_layout.proofs.Spelled.{connections_back}
use Rattle.image_layout.proofs.Whole.{length-connections_of, connection_is}

pub image_whole : (w : List ℕ) (t : TimetableValue) (n : NamesValue) → IsImage w t n → IsWhole w
image_whole w t n is = subst (λ (v : List ℕ). IsWhole v) (sym is.spelled) (image_is_whole (layout_of w) t n is.can_be)

image_connections : (w : List ℕ) (t : TimetableValue) (n : NamesValue) → IsImage w t n → connections_of w ≡ t.connections
image_connections w t n is = ap (λ (v : List ℕ). connections_of v) is.spelled ∙ connections_back (layout_of w) t n

pub image_within : (w : List ℕ) (t : TimetableValue) (n : NamesValue) (i : ℕ) → IsImage w t n → i < length t.connections → i < (header_of w).connections
image_within w t n i is lt =
    let count : length t.connections ≡ (header_of w).connections =
    ap (λ (cs : List Connection). length cs) (sym (image_connections w t n is)) ∙ length-connections_of w in
    omega (arith, count, lt)

pub image_departure : (w : List ℕ) (t : TimetableValue) (n : NamesValue) (i : ℕ) → IsImage w t n
    → i < length t.connections → dep_of w i ≡ (connection_at t i).dep
image_departure w t n i is lt =
    let here = connection_is w i (image_within w t n i is lt) in
    let there : At t.connections i (connection_of w i) = subst (λ (cs : List Connection). At cs i (connection_of w i)) (image_connections w t n is) here in
    ap (λ (c : Connection). c.dep) (sym (connection_at-is t i (connection_of w i) there))
