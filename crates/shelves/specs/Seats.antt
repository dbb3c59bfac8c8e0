-- What a seat shows, and what it may be answered.
use Rattle.std.specs.Prelude.{◌≡◌, ◌≢◌, ℕ, ◌+◌, ◌<◌, ◌≤◌, max, true, slice_get, slice_index, List, [], ◌∷◌, ◌++◌, Option, Some, None, Result, Ok, Err}
use Rattle.std.specs.declared.snapshot.Snapshot.{Snapshot}
use Rattle.image_layout.specs.Image.{ImageValue}
use Rattle.version_core.specs.State.{most_versions}
use Rattle.shelves.specs.declared.collected.Collected.{Collected}
use Rattle.shelves.specs.declared.faults.PinFault.{PinFault}
use Rattle.shelves.specs.declared.faults.PublishFault.{PublishFault}
use Rattle.shelves.specs.declared.answers.SeatAnswer.{SeatAnswer}
use Rattle.shelves.specs.declared.answers.LoaderAnswer.{LoaderAnswer}

pub record SeatValue : Type 0 where
  pub answers : List SeatAnswer  -- so far
  pub held : Option (ℕ × ImageValue)  -- the version that the seat holds, with its image
  pub seen : ℕ  -- the greatest version that the seat has seen

-- the seat after an answer that changes nothing else
abbrev pub with_answer : SeatValue → SeatAnswer → SeatValue
with_answer a answer = record a { answers = a.answers ++ answer ∷ [] }

abbrev pub emptied : SeatValue → SeatAnswer → SeatValue
emptied a answer = record a { answers = a.answers ++ answer ∷ []; held = None }

abbrev pub pinned : SeatValue → ℕ → Snapshot ImageValue → SeatValue
pinned a version image = record { answers = a.answers ++ SeatAnswer.Pinned version image ∷ []; held = Some (version, image.value); seen = version }

-- from one value of a seat to the next, by a pin with this result. If it moved, its four looks found four versions, each greater than the one before
abbrev pub ShowsPin : SeatValue → Result (Unit {0}) PinFault → SeatValue → Type 0
ShowsPin a (Ok u) b = (a.held ≡ None) × ((version : ℕ) × (image : Snapshot ImageValue) × (a.seen ≤ version) × (b ≡ pinned a version image))
ShowsPin a (Err (PinFault.Moved newest)) b =
    (a.held ≡ None) × (a.seen + 3 ≤ newest) × (b ≡ record a { answers = a.answers ++ SeatAnswer.PinRefused (PinFault.Moved newest) ∷ []; seen = newest })
ShowsPin a (Err PinFault.AlreadyPinned) b = (a.held ≢ None) × (b ≡ with_answer a (SeatAnswer.PinRefused PinFault.AlreadyPinned))
ShowsPin a (Err PinFault.SeatLost) b = (a.held ≡ None) × (b ≡ with_answer a (SeatAnswer.PinRefused PinFault.SeatLost))
ShowsPin a (Err PinFault.OutOfMemory) b = (a.held ≡ None) × (b ≡ with_answer a (SeatAnswer.PinRefused PinFault.OutOfMemory))
ShowsPin a (Err PinFault.NotPinned) b = ⊥

-- from one value of a seat to the next, by a release with this result
abbrev pub ShowsRelease : SeatValue → Result (Unit {0}) PinFault → SeatValue → Type 0
ShowsRelease a (Ok u) b = (a.held ≢ None) × (b ≡ emptied a SeatAnswer.Released)
ShowsRelease a (Err PinFault.NotPinned) b = (a.held ≡ None) × (b ≡ with_answer a (SeatAnswer.ReleaseRefused PinFault.NotPinned))
ShowsRelease a (Err PinFault.SeatLost) b = (a.held ≢ None) × (b ≡ emptied a (SeatAnswer.ReleaseRefused PinFault.SeatLost))
ShowsRelease a (Err _) b = ⊥

-- the refusal is one of shelves that know their seats and pin without memory: neither SeatLost nor OutOfMemory, with which a lock may have to refuse
abbrev pub KnowsItsSeats : PinFault → Type 0
KnowsItsSeats PinFault.SeatLost = ⊥
KnowsItsSeats PinFault.OutOfMemory = ⊥
KnowsItsSeats _ = Unit {0}

-- from one value of a seat to the next, by a notice of this version that is taken in: the seat has seen the greater of the two versions, and nothing
-- else changes
abbrev pub ShowsJoin : SeatValue → ℕ → SeatValue → Type 0
ShowsJoin a version b = b ≡ record a { seen = max a.seen version }

-- a loader's seat shows its answers so far: from one list to the next, by a publish of this image as this version
abbrev pub ShowsPublish : List LoaderAnswer → ImageValue → ℕ → List LoaderAnswer → Type 0
ShowsPublish a image version b = (1 < version) × (version ≤ most_versions)
    × ((shown : Snapshot ImageValue) × (shown.value ≡ image) × (b ≡ a ++ LoaderAnswer.Published version shown ∷ []))

-- workers are at every shelf but one, the current one
abbrev pub AreBusyButOne : List ℕ → Type 0
AreBusyButOne counts = (k : ℕ) × (k < 8) × (slice_index counts k ≡ 0) × ((j : ℕ) → j < 8 → j ≢ k → 0 < slice_index counts j)

abbrev pub ShowsRefusal : List LoaderAnswer → PublishFault → List LoaderAnswer → Type 0
ShowsRefusal a (PublishFault.ShelvesFull counts) b = AreBusyButOne counts × (b ≡ a ++ LoaderAnswer.PublishRefused (PublishFault.ShelvesFull counts) ∷ [])
ShowsRefusal a PublishFault.VersionsSpent b = b ≡ a ++ LoaderAnswer.PublishRefused PublishFault.VersionsSpent ∷ []
ShowsRefusal a PublishFault.OutOfMemory b = b ≡ a ++ LoaderAnswer.PublishRefused PublishFault.OutOfMemory ∷ []

-- from one list of answers to the next, by a collection: no shelf was freed with workers there
abbrev pub ShowsCollection : List LoaderAnswer → Collected → List LoaderAnswer → Type 0
ShowsCollection a found b =
    ((k : ℕ) → k < 8 → slice_get found.freed k ≡ Some true → slice_get found.busy k ≡ Some 0) × (b ≡ a ++ LoaderAnswer.Collected found ∷ [])
