-- All seats know beginnings of one history.
use Rattle.std.proofs.Common.{ℕ, Option, refl, sym, subst}
use Rattle.shelf_steps.specs.declared.views.KnownHistory.{KnownHistory}
use Rattle.shelf_steps.specs.declared.views.View.{View}
use Rattle.shelf_steps.specs.EventHistory.{IsKnownBeginning, EventHistory, known_in_full}
use Rattle.shelf_steps.specs.Events.{known_of}
use Rattle.shelf_steps.specs.Laws.{Shelved}
use Rattle.shelf_steps.specs.Rule.{KeepsRule}
use Rattle.shelf_steps.specs.Seats.{SeatFits}
use Rattle.shelves.specs.Pinned.{SeatsAgreeOnImages, SeatsKnowBeginnings}
use Rattle.shelves.specs.SeatHistory.{Grows}
use Rattle.shelves.proofs.GrowthLemmas.{one_image_each, published_stay}

begun : (k : KnownHistory) (a : Option ℕ) (c : EventHistory) → IsKnownBeginning k a c → Grows k (known_in_full c)
begun k a c begins = record { events = (begins.events.0, begins.events.1); replies = begins.replies; images = begins.images }

fits_grow : (table : Shelved) (r : KeepsRule table) (i : ℕ) (u : View) → SeatFits r.history r.loader r.seats.owner i u
    → Grows (known_of u) (known_in_full r.history)
fits_grow table r i (View.Loading l) fits =
    subst (λ loader. Grows loader.known (known_in_full r.history)) (sym fits.1) (begun r.loader.known _ r.history r.seats.loads.known)
fits_grow table r i (View.Working v) fits = begun v.known _ r.history fits.2.known
fits_grow table r i _ fits =
    record { events = (r.history.events, refl); replies = (r.history.replies, refl); images = (r.history.images, refl) }

pub beginnings_known : SeatsKnowBeginnings
beginnings_known table i u r at = fits_grow table r i u (r.seats.each i u at)

pub images_agreed : SeatsAgreeOnImages
images_agreed table i j u w version image other r at there is then =
    let all = known_in_full r.history in
    let stays = published_stay (known_of w) all version other (beginnings_known table j w r there) then in
    one_image_each (known_of u) all version image other (beginnings_known table i u r at) is stays
