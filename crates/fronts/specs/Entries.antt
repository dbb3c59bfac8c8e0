-- What holds of each entry.
use Rattle.std.specs.Prelude.{◌≡◌, ◌⊎◌, ℕ, suc, ◌+◌, ◌<◌, ◌≤◌, List, Contains, slice_get, Some, length}
use Rattle.criteria.specs.Laws.{Rules, Admits}
use Rattle.fronts.specs.declared.entry.Item.{Item}
use Rattle.fronts.specs.declared.entry.FrontEntry.{FrontEntry}
use Rattle.fronts.specs.Front.{front, next_of, departure_of, Betters, Extends}

-- an entry carries a front, given the next entry on its list, if there is one
pub record IsLinked {V : Type 0} (rules : Rules V) (departure next later : ℕ)
    (points rest : List (Item V)) : Type 0 where
  -- the next entry departs later
  pub rises : 0 < next → departure < later
  -- the points depart no earlier than the entry, and their values are admitted
  pub late : (p : Item V) → Contains points p → departure ≤ p.departure
  pub admitted : (p : Item V) → Contains points p → Admits rules p.value
  -- those that depart later than the entry are in the next one's front
  pub from : (p : Item V) → Contains points p → (p.departure ≡ departure) ⊎ Contains rest p
  -- and each point of that front is bettered
  pub over : (p : Item V) → Contains rest p → Betters rules points p.value

-- the entry at an index carries a front
abbrev pub IsEntry : {V : Type 0} → Rules V → List (FrontEntry V) → List (Item V) → ℕ → Type 0
IsEntry rules entries items m =
    IsLinked rules (departure_of entries m) (next_of entries m) (departure_of entries (next_of entries m))
    (front entries items m) (front entries items (next_of entries m))

-- all entries: links lead back, to entry 0, which departs at the greatest time
pub record AreEntries {V : Type 0} (rules : Rules V) (entries : List (FrontEntry V)) (items : List (Item V)) : Type 0 where
  pub some : 0 < length entries
  pub ends : next_of entries 0 ≡ 0
  pub never : departure_of entries 0 ≡ 4294967295
  pub back : (m : ℕ) → next_of entries (suc m) ≤ m
  pub within : (m : ℕ) (e : FrontEntry V) → slice_get entries m ≡ Some e → e.rest + e.count ≤ length items
  pub each : (m : ℕ) → IsEntry rules entries items m

-- entries and items are only added, and all entries carry their fronts
pub record AreMore {V : Type 0} (rules : Rules V) (entries : List (FrontEntry V)) (items : List (Item V))
    (new_entries : List (FrontEntry V)) (new_items : List (Item V)) : Type 0 where
  pub sound : AreEntries rules new_entries new_items
  pub entries_more : Extends entries new_entries
  pub items_more : Extends items new_items

-- one of the entries, all of which carry their fronts
pub record HasEntry {V : Type 0} (rules : Rules V) (entries : List (FrontEntry V)) (items : List (Item V)) (index : ℕ) : Type 0 where
  pub sound : AreEntries rules entries items
  pub within : index < length entries
