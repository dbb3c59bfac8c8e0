-- What a seat knows of the one history of its shelves: the events so far with their replies, and the image of each version.
use Rattle.std.specs.Prelude.{◌≡◌, ◌≢◌, ℕ, ◌<◌, ◌⊎◌, List, [], ◌∷◌, ◌++◌, All, true, slice_get, Option, Some, None, IfSome, Result, Ok, Err}
use mathlib.Core.List.{IsPrefix}
use Rattle.image_layout.specs.Image.{ImageValue}
use Rattle.version_core.specs.declared.event.Event.{Event}
use Rattle.version_core.specs.declared.event.Reply.{Reply}
use Rattle.version_core.specs.Actors.{actor}
use Rattle.version_core.specs.State.{State}
use Rattle.version_core.specs.Steps.{Holds, IsClosing}
use Rattle.shelf_steps.specs.declared.views.KnownHistory.{KnownHistory}
use Rattle.shelf_steps.specs.EventHistory.{LeadsToItsState, leading_to, image_of, Happened}
use Rattle.shelves.specs.declared.faults.PinFault.{PinFault}
use Rattle.shelves.specs.declared.faults.PublishFault.{PublishFault}
use Rattle.shelves.specs.declared.collected.Collected.{Collected}

-- the history published this image as this version
abbrev pub IsPublished : KnownHistory → ℕ → ImageValue → Type 0
IsPublished known version image = image_of known.images version ≡ Some image

-- what was known before is a beginning of what is known after
pub record Grows (before after : KnownHistory) : Type 0 where
  pub events : IsPrefix before.events after.events
  pub replies : IsPrefix before.replies after.replies
  pub images : IsPrefix before.images after.images

-- what a seat knows has grown while it was answered, and what each answer tells is so in what it knows then
pub record LearnsBy {A : Type 0} (tells : KnownHistory → A → Type 0) (known : KnownHistory) (before : List A) (known_then : KnownHistory) (after : List A)
    : Type 0 where
  pub grows : Grows known known_then
  pub answers : List A
  pub answers_are : after ≡ before ++ answers
  pub published : All (tells known_then) answers

-- in this history the worker with this number holds the version, and the image is the one that was published as it
pub record HoldsIn (known : KnownHistory) (number version : ℕ) (image : ImageValue) : Type 0 where
  pub state : State
  pub shelf : ℕ
  pub history : LeadsToItsState (leading_to state known)
  pub holds : Holds state number shelf version
  pub published : IsPublished known version image

-- if the seat holds a version, its worker holds it in the history that the seat knows
abbrev pub HoldsAsKnown : KnownHistory → ℕ → Option (ℕ × ImageValue) → Type 0
HoldsAsKnown known number held = IfSome held (λ h. HoldsIn known number h.0 h.1)

-- some time after what was known before, the worker looked: the current version was this one, on this shelf
pub record IsFound (before : KnownHistory) (number version shelf : ℕ) (looked : KnownHistory) : Type 0 where
  pub first : KnownHistory
  pub since : Grows before first
  pub look : Happened first (Event.Look number) (Reply.Looked version shelf) looked

-- the worker looked and found the version, and then took it: it was still there
abbrev pub EndsHolding : KnownHistory → ℕ → ℕ → KnownHistory → Type 0
EndsHolding before number version after = (shelf : ℕ) × (looked : KnownHistory) × IsFound before number version shelf looked
    × Happened looked (Event.Take number) (Reply.Holds version) after

-- the worker looked and found the version, came too late to take it, and left the shelf
abbrev pub EndsLate : KnownHistory → ℕ → ℕ → KnownHistory → Type 0
EndsLate before number version after = (shelf : ℕ) × (looked : KnownHistory) × (late : KnownHistory) × IsFound before number version shelf looked
    × Happened looked (Event.Take number) Reply.Late late × Happened late (Event.Drop number) Reply.Dropped after

-- what a pin with this result did last in the history, from what was known before it to what is known after it. Any other refusal did nothing
abbrev pub EndsPin : KnownHistory → ℕ → Result (Unit {0}) PinFault → Option (ℕ × ImageValue) → KnownHistory → Type 0
EndsPin before number (Ok u) held after = IfSome held (λ h. EndsHolding before number h.0 after)
EndsPin before number (Err (PinFault.Moved newest)) held after = EndsLate before number newest after
EndsPin before number (Err _) held after = after ≡ before

-- what a release did: the worker dropped what it held; a refusal did nothing
abbrev pub EndsRelease : KnownHistory → ℕ → Result (Unit {0}) PinFault → KnownHistory → Type 0
EndsRelease before number (Ok u) after = Happened before (Event.Drop number) Reply.Dropped after
EndsRelease before number (Err _) after = after ≡ before

-- among these events, each one of the loader's is a try at one of these shelves
abbrev pub AreTries : (ℕ → Type 0) → List Event → Type 0
AreTries shelves [] = Unit {0}
AreTries shelves (e ∷ es) = ((actor e ≢ None) ⊎ ((k : ℕ) × (e ≡ Event.Collect k) × shelves k)) × AreTries shelves es

-- between what was known before and what is known after, the loader did nothing but tries at these shelves
abbrev pub OnlyTries : (ℕ → Type 0) → KnownHistory → KnownHistory → Type 0
OnlyTries shelves before after = (since : List Event) × (after.events ≡ before.events ++ since) × AreTries shelves since

-- what a publish did in the history that the loader knows, from what was known before it to what is known after it: tries at shelves, if any;
-- then the version was opened with its image, the only one that is new; it became the current one; and then a shelf was closed
pub record EndsPublish (before : KnownHistory) (version : ℕ) (after : KnownHistory) : Type 0 where
  pub ready : KnownHistory
  pub opened : KnownHistory
  pub current : KnownHistory
  pub edition : ℕ
  pub shelf : ℕ
  pub closed : ℕ
  pub since : Grows before ready
  pub only : OnlyTries (λ k. Unit {0}) before ready
  pub opening : Happened ready (Event.Open edition) (Reply.Opened version shelf) opened
  pub publish : Happened opened Event.Publish (Reply.Published version) current
  pub close : Happened current (Event.Close closed) Reply.Closing after
  pub image : (one : ImageValue) × (after.images ≡ before.images ++ one ∷ [])

-- between what was known before and what is known after, a try at the shelf got this reply
abbrev pub IsTried : KnownHistory → ℕ → Reply → KnownHistory → Type 0
IsTried before shelf reply after = (first : KnownHistory) × (tried : KnownHistory) × Grows before first
    × Happened first (Event.Collect shelf) reply tried × Grows tried after

-- between what was known before and what is known after, the shelf was tried once, with this reply; the loader's other events are tries at other
-- shelves
abbrev pub IsTriedOnce : KnownHistory → ℕ → Reply → KnownHistory → Type 0
IsTriedOnce before shelf reply after = (first : KnownHistory) × (tried : KnownHistory) × OnlyTries (λ k. k ≢ shelf) before first
    × Happened first (Event.Collect shelf) reply tried × OnlyTries (λ k. k ≢ shelf) tried after

-- between what was known before and what is known after, the first try at the shelf got this reply
abbrev pub IsTriedFirst : KnownHistory → ℕ → Reply → KnownHistory → Type 0
IsTriedFirst before shelf reply after = (first : KnownHistory) × (tried : KnownHistory) × Grows before first × OnlyTries (λ k. k ≢ shelf) before first
    × Happened first (Event.Collect shelf) reply tried × Grows tried after

-- the shelf is reported as freed, or as in use
abbrev pub IsReported : Collected → ℕ → Type 0
IsReported found k = (slice_get found.freed k ≡ Some true) ⊎ ((count : ℕ) × (0 < count) × (slice_get found.busy k ≡ Some count))

-- what a collection reports was found by tries in the history since then: if it reports a shelf as freed, the first try there freed it; and if it
-- reports a count above 0 at a shelf, the only try there found that count. The loader did nothing else, and published no image
pub record FindsByTries (before : KnownHistory) (found : Collected) (after : KnownHistory) : Type 0 where
  pub freed : (k : ℕ) → k < 8 → slice_get found.freed k ≡ Some true → IsTriedFirst before k Reply.Freed after
  pub busy : (k count : ℕ) → k < 8 → 0 < count → slice_get found.busy k ≡ Some count → IsTried before k (Reply.Busy count) after
  pub once : (k count : ℕ) → k < 8 → 0 < count → slice_get found.busy k ≡ Some count → IsTriedOnce before k (Reply.Busy count) after
  pub only : OnlyTries (IsReported found) before after
  pub images : after.images ≡ before.images

-- a publish that is refused did nothing but tries at shelves, if any, and no image is new
abbrev pub EndsRefused : KnownHistory → KnownHistory → Type 0
EndsRefused before after = OnlyTries (λ k. Unit {0}) before after × (after.images ≡ before.images)

-- what was known before leads to a state, and each shelf that is closing in that state is reported, so it was tried
pub record EachClosingIsTried (before : KnownHistory) (found : Collected) : Type 0 where
  pub state : State
  pub history : LeadsToItsState (leading_to state before)
  pub each : (k v : ℕ) → IsClosing state k v → IsReported found k

-- each closing shelf was tried and found in use, by as many workers as the counts say
pub record AreInUse (before : KnownHistory) (counts : List ℕ) (after : KnownHistory) : Type 0 where
  pub found : Collected
  pub counts_are : counts ≡ found.busy
  pub tries : FindsByTries before found after
  pub all : EachClosingIsTried before found
  pub none_freed : (k : ℕ) → k < 8 → slice_get found.freed k ≢ Some true

-- if a publish is refused since all shelves are in use, each closing one was tried and found in use
abbrev pub IsFullByTries : KnownHistory → PublishFault → KnownHistory → Type 0
IsFullByTries before (PublishFault.ShelvesFull counts) after = AreInUse before counts after
IsFullByTries before _ after = Unit {0}

-- a version that was published with one image is never published with another
abbrev pub OneImageEach : Type 0
OneImageEach =
    (earlier later : KnownHistory) (version : ℕ) (image other : ImageValue) → Grows earlier later
    → IsPublished earlier version image → IsPublished later version other → other ≡ image

-- a version that was published with an image still has it in each later history
abbrev pub PublishedStay : Type 0
PublishedStay =
    (earlier later : KnownHistory) (version : ℕ) (image : ImageValue) → Grows earlier later
    → IsPublished earlier version image → IsPublished later version image

-- growing is transitive
abbrev pub GrowthsJoin : Type 0
GrowthsJoin = (first second third : KnownHistory) → Grows first second → Grows second third → Grows first third
