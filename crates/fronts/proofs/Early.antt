-- Searches that pass an entry which departs too early: what is known of its index, and of the next entry.
use Rattle.std.proofs.Common.{◌≡◌, ℕ, ◌<◌, ◌≤◌, List, length, get_or, ap, sym, ◌∙◌, subst}
use Rattle.criteria.specs.Laws.{Rules}
use Rattle.fronts.specs.declared.entry.Item.{Item}
use Rattle.fronts.specs.declared.entry.FrontEntry.{FrontEntry}
use Rattle.fronts.specs.Front.{departure_of}
use Rattle.fronts.specs.Entries.{AreEntries}
use Rattle.fronts.proofs.Points.{LeadsTo, departs_at, next_at, not_end, next_back, leads_on}

-- an entry read at an index departs when the index does
pub departs_early : {V : Type 0} (entries : List (FrontEntry V)) (m time : ℕ) (e : FrontEntry V) → m < length entries
    → e ≡ get_or entries m e → (get_or entries m e).departure < time → departure_of entries m < time
departs_early {V} entries m time e lt is early =
    subst (λ n. n < time) (sym (departs_at entries m e lt is))
    (subst (λ (f : FrontEntry V). f.departure < time) (sym is) early)

-- the next entry of one that departs early lies before it
pub goes_back : {V : Type 0} (rules : Rules V) (entries : List (FrontEntry V)) (items : List (Item V))
    → AreEntries rules entries items → (m time : ℕ) (e : FrontEntry V) → m < length entries → e ≡ get_or entries m e
    → departure_of entries m < time → time ≤ 4294967295 → (get_or entries m e).next < m
goes_back {V} rules entries items are m time e lt is early le =
    subst (λ (f : FrontEntry V). f.next < m) is (subst (λ n. n < m) (next_at entries m e lt is)
    (next_back rules entries items are m (not_end rules entries items are m time early le)))

-- the same, of an entry read twice
pub reads_back : {V : Type 0} (rules : Rules V) (entries : List (FrontEntry V)) (items : List (Item V)) → AreEntries rules entries items
    → (m time : ℕ) (e f : FrontEntry V) → m < length entries → e ≡ get_or entries m e → f ≡ get_or entries m f
    → (get_or entries m e).departure < time → time ≤ 4294967295 → (get_or entries m f).next < m
reads_back rules entries items are m time e f lt is again early le =
    goes_back rules entries items are m time f lt again (departs_early entries m time e lt is early) le

-- and the way to the first late entry goes on by the next one
pub reads_on : {V : Type 0} (rules : Rules V) (entries : List (FrontEntry V)) (items : List (Item V)) → AreEntries rules entries items
    → (head m time : ℕ) (e f : FrontEntry V) → LeadsTo entries items head time m → e ≡ get_or entries m e → f ≡ get_or entries m f
    → (get_or entries m e).departure < time → LeadsTo entries items head time (get_or entries m f).next
reads_on {V} rules entries items are head m time e f leads is again early =
    leads_on rules entries items are head time m _ (departs_early entries m time e leads.within is early)
    (next_at entries m f leads.within again ∙ ap (λ (x : FrontEntry V). x.next) again) leads
