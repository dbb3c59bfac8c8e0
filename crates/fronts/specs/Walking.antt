-- Ridden values kept after a footpath, and what an insertion makes of a list.
use Rattle.std.specs.Prelude.{◌≡◌, ◌⊎◌, ℕ, ◌<◌, false, List, [], ◌∷◌, ◌++◌, Contains, slice_get, slice_index_or, Some, length}
use Rattle.criteria.specs.Laws.{Rules, Admits, IsSecs}
use Rattle.fronts.specs.declared.entry.Boarding.{Boarding}
use Rattle.fronts.specs.declared.entry.FrontEntry.{FrontEntry}
use Rattle.fronts.specs.declared.entry.Item.{Item}
use Rattle.fronts.specs.declared.entry.RiddenLabel.{RiddenLabel}
use Rattle.fronts.specs.declared.entry.Step.{Step}
use Rattle.fronts.specs.Front.{Betters, Covers}
use Rattle.fronts.specs.Entries.{AreEntries}
use Rattle.fronts.specs.Putting.{betters, CoversAll}

-- a step and a point are added; the point's tag is the index of the step
pub record IsKept {V : Type 0} (steps : List Step) (kept : List (Item V)) (departure : ℕ) (v : V) (step : Step)
    (new_steps : List Step) (now : List (Item V)) : Type 0 where
  pub steps_more : new_steps ≡ steps ++ step ∷ []
  pub kept_more : now ≡ kept ++ record { departure = departure; value = v; tag = length steps } ∷ []

-- a point is one of the ridden values after a footpath, and its tag is the index of a step that says so
pub record IsBoarding {V : Type 0} (rules : Rules V) (steps : List Step) (boarding : Boarding)
    (ridden : List (RiddenLabel V)) (p : Item V) : Type 0 where
  pub by : RiddenLabel V
  pub is_ridden : Contains ridden by
  pub departs : p.departure ≡ boarding.departure
  pub worth : p.value ≡ rules.walk boarding.secs by.value
  pub goes_on : slice_get steps p.tag ≡ Some (record { first = boarding.first; label = by.label; walk = boarding.walk })

-- each of these points is one
abbrev pub AreBoardings : {V : Type 0} → Rules V → List Step → Boarding → List (RiddenLabel V) → List (Item V) → Type 0
AreBoardings {V} rules steps boarding ridden points =
    (p : Item V) → Contains points p → IsBoarding rules steps boarding ridden p

-- the first n ridden values are bettered, after the footpath, by points that are kept or by those of a front
abbrev pub AllWalked : {V : Type 0} → Rules V → List (Item V) → ℕ → List (RiddenLabel V) → ℕ → List (Item V) → Type 0
AllWalked {V} rules points secs ridden n kept =
    (k : ℕ) (d : RiddenLabel V) → k < n → Betters rules kept (rules.walk secs (slice_index_or ridden k d).value)
    ⊎ Betters rules points (rules.walk secs (slice_index_or ridden k d).value)

-- ridden values may be taken into the list that begins at `head`: the entries carry their fronts, `head` is one of them, the footpath's seconds are legal,
-- and the values are admitted
pub record MayInsert {V : Type 0} (rules : Rules V) (entries : List (FrontEntry V)) (items : List (Item V)) (head secs : ℕ)
    (ridden : List (RiddenLabel V)) : Type 0 where
  pub sound : AreEntries rules entries items
  pub within : head < length entries
  pub short : IsSecs secs
  pub admitted : (r : RiddenLabel V) → Contains ridden r → Admits rules r.value

-- of the ridden values, after the footpath, exactly those are kept that no point of a front betters
pub record AreKept {V : Type 0} (rules : Rules V) (points : List (Item V)) (steps : List Step) (boarding : Boarding)
    (ridden : List (RiddenLabel V)) (kept : List (Item V)) : Type 0 where
  pub boarded : AreBoardings rules steps boarding ridden kept
  pub fresh : (p : Item V) → Contains kept p → betters rules points p.value ≡ false
  pub all : AllWalked rules points boarding.secs ridden (length ridden) kept

-- a list takes the ridden values in: each of its points was there before or is one of these values after the footpath, and the new list covers what the
-- old one covered, and each of these values after the footpath, at the departure
pub record TakesBoardings {V : Type 0} (rules : Rules V) (steps : List Step) (boarding : Boarding)
    (ridden : List (RiddenLabel V)) (old new : List (Item V)) : Type 0 where
  pub only : (p : Item V) → Contains new p → Contains old p ⊎ IsBoarding rules steps boarding ridden p
  pub kept : CoversAll rules old new
  pub covered : (r : RiddenLabel V) → Contains ridden r → Covers rules new boarding.departure (rules.walk boarding.secs r.value)
