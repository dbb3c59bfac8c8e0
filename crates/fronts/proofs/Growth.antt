-- What stays as entries and items are added.
use Rattle.std.proofs.Common.{◌≡◌, ℕ, zero, suc, ◌+◌, ◌<◌, ◌≤◌, List, ◌∷◌, ◌++◌, length, take, drop, map, slice_get, Option}
use Rattle.std.proofs.Common.{Some, None, refl, sym, ◌∙◌, ap, ap₂, subst, arith, length-append, length-drop}
use Rattle.std.proofs.lemmas.List.{take-append-le, drop-append-le}
use Rattle.reasoning.proofs.ListLemmas.{slice_get-front, extends_none, extends_on}
use Rattle.criteria.specs.Laws.{Rules}
use Rattle.fronts.specs.declared.entry.Item.{Item}
use Rattle.fronts.specs.declared.entry.FrontEntry.{FrontEntry}
use Rattle.fronts.specs.Front.{own, front_of, front, next_in, next_of, departure_in, departure_of, points_from, Extends}
use Rattle.fronts.specs.declared.front_lists.FrontLists.{FrontLists}
use Rattle.fronts.specs.Entries.{AreEntries, AreMore, IsLinked}
use Rattle.fronts.specs.Lists.{lists_criterion, entries_of, items_of, steps_of, point_of, list_points, IsSound, AreMoreLists}
use Rattle.fronts.proofs.Chains as chain

pub extends_long : {X : Type 0} (old new : List X) → Extends old new → length old ≤ length new
extends_long old new ext = let e = ap length ext.1 ∙ length-append old ext.0 in omega arith

pub same_at : {X : Type 0} (old new : List X) → Extends old new → (k : ℕ) → k < length old → slice_get new k ≡ slice_get old k
same_at {X} old new ext k lt = ap (λ (xs : List X). slice_get xs k) ext.1 ∙ slice_get-front old ext.0 k lt

pub same_part : {X : Type 0} (old new : List X) → Extends old new → (r c : ℕ) → r + c ≤ length old → take c (drop r new) ≡ take c (drop r old)
same_part {X} old new ext r c within =
    let len = length-drop r old in
    ap (λ (xs : List X). take c (drop r xs)) ext.1
    ∙ ap (take c) (drop-append-le r old ext.0 (omega arith))
    ∙ take-append-le c (drop r old) ext.0 (omega arith)

front_of_same : {V : Type 0} (old new : List (Item V)) → Extends old new → (o : Option (FrontEntry V))
    → ((e : FrontEntry V) → o ≡ Some e → e.rest + e.count ≤ length old) → front_of new o ≡ front_of old o
front_of_same old new ext None within = refl
front_of_same old new ext (Some e) within = ap (λ ps. own e ∷ ps) (same_part old new ext e.rest e.count (within e refl))

-- a front as before, among more items
pub front_more : {V : Type 0} (rules : Rules V) (entries : List (FrontEntry V)) (old new : List (Item V))
    → AreEntries rules entries old → Extends old new → (m : ℕ) → front entries new m ≡ front entries old m
front_more rules entries old new are ext zero = refl
front_more rules entries old new are ext (suc m) = front_of_same old new ext (slice_get entries (suc m)) (λ e at. are.within (suc m) e at)

pub are_more : {V : Type 0} (rules : Rules V) (entries : List (FrontEntry V)) (old new : List (Item V))
    → AreEntries rules entries old → Extends old new → AreEntries rules entries new
are_more rules entries old new are ext = record {
  some = are.some;
  ends = are.ends;
  never = are.never;
  back = are.back;
  within = λ m e at. let old_within = are.within m e at in let grows = extends_long old new ext in omega arith;
  each = λ m.
      subst (λ ps. IsLinked rules (departure_of entries m) (next_of entries m)
      (departure_of entries (next_of entries m)) ps (front entries new (next_of entries m)))
      (sym (front_more rules entries old new are ext m))
      (subst (λ ps. IsLinked rules (departure_of entries m) (next_of entries m)
      (departure_of entries (next_of entries m)) (front entries old m) ps)
      (sym (front_more rules entries old new are ext (next_of entries m))) (are.each m));
}

module _ {V : Type 0} (rules : Rules V) (old_entries new_entries : List (FrontEntry V)) (old_items new_items : List (Item V))
    (are : AreEntries rules old_entries old_items) (entries : Extends old_entries new_entries)
    (items : Extends old_items new_items) where
  pub same_front : (m : ℕ) → m < length old_entries → front new_entries new_items m ≡ front old_entries old_items m
  same_front zero lt = refl
  same_front (suc m) lt =
      ap (front_of new_items) (same_at old_entries new_entries entries (suc m) lt)
      ∙ front_of_same old_items new_items items (slice_get old_entries (suc m)) (λ e at. are.within (suc m) e at)

  pub same_next : (m : ℕ) → m < length old_entries → next_of new_entries m ≡ next_of old_entries m
  same_next m lt = ap next_in (same_at old_entries new_entries entries m lt)

  pub same_departure : (m : ℕ) → m < length old_entries → departure_of new_entries m ≡ departure_of old_entries m
  same_departure m lt = ap departure_in (same_at old_entries new_entries entries m lt)

  pub same_points : (m : ℕ) → m < length old_entries → points_from new_entries new_items m ≡ points_from old_entries old_items m
  same_points m lt =
      chain.same_along (next_of old_entries) (front old_entries old_items) are.back (next_of new_entries) (front new_entries new_items)
      (length old_entries) same_next same_front m lt

-- nothing is added
pub same_entries : {V : Type 0} (rules : Rules V) (entries : List (FrontEntry V)) (items : List (Item V))
    → AreEntries rules entries items → AreMore rules entries items entries items
same_entries rules entries items are = record { sound = are; entries_more = extends_none entries; items_more = extends_none items }

-- items alone are added
pub items_added : {V : Type 0} (rules : Rules V) (entries : List (FrontEntry V)) (old new : List (Item V))
    → AreEntries rules entries old → Extends old new → AreMore rules entries old entries new
items_added rules entries old new are ext =
    record { sound = are_more rules entries old new are ext; entries_more = extends_none entries; items_more = ext }

-- and then more is
pub still_more : {V : Type 0} (rules : Rules V) (old mid new : List (FrontEntry V)) (old_items mid_items new_items : List (Item V))
    → AreMore rules old old_items mid mid_items → AreMore rules mid mid_items new new_items → AreMore rules old old_items new new_items
still_more rules old mid new old_items mid_items new_items before after = record {
  sound = after.sound;
  entries_more = extends_on old mid new before.entries_more after.entries_more;
  items_more = extends_on old_items mid_items new_items before.items_more after.items_more;
}

module _ {K V : Type 0} (rules_of : K → Rules V) where
  pub more_none : (lists : FrontLists K V) → IsSound rules_of lists → AreMoreLists rules_of lists lists
  more_none lists sound = record {
    sound = sound;
    criterion = refl;
    entries = extends_none (entries_of lists);
    items = extends_none (items_of lists);
    steps = extends_none (steps_of lists);
  }

  -- entries, items and steps are added
  pub more_lists : (old new : FrontLists K V)
      → AreMore (rules_of (lists_criterion old)) (entries_of old) (items_of old) (entries_of new) (items_of new)
      → lists_criterion new ≡ lists_criterion old → Extends (steps_of old) (steps_of new) → AreMoreLists rules_of old new
  more_lists old new more same steps = record {
    sound = subst (λ k. AreEntries (rules_of k) (entries_of new) (items_of new)) (sym same) more.sound;
    criterion = same;
    entries = more.entries_more;
    items = more.items_more;
    steps = steps;
  }

  -- the lists that were there stay as they were
  pub same_lists : (old new : FrontLists K V) → IsSound rules_of old → AreMoreLists rules_of old new
      → (index : ℕ) → index < length (entries_of old) → list_points new index ≡ list_points old index
  same_lists old new sound more index lt =
      ap (map point_of) (same_points (rules_of (lists_criterion old)) (entries_of old) (entries_of new) (items_of old)
      (items_of new) sound more.entries more.items index lt)
