use Rattle.std.proofs.Common.{rules, ◌≡◌, ◌⊎◌, ◌<◌, ◌≤◌, ◌++◌, ◌∷◌, [], ℕ, List, length, Contains, inl, inr, sym, subst, arith}
use Rattle.std.proofs.lemmas.List.Elements.{Contains-append_left, Contains-push}
use Rattle.criteria.specs.Laws.{Rules}
use Rattle.fronts.specs.declared.entry.Item.{Item}
use Rattle.fronts.specs.declared.entry.FrontEntry.{FrontEntry}
use Rattle.fronts.specs.Front.{next_of, departure_of, points_from, Extends}
use Rattle.fronts.specs.Chains.{points_to}
use Rattle.fronts.specs.Entries.{AreEntries}
use Rattle.fronts.specs.Putting.{IsPath, DepartBefore}
use Rattle.fronts.proofs.Growth.{extends_long, same_departure, same_entries, still_more}
use Rattle.fronts.proofs.Leaving.{match_err}
use Rattle.fronts.proofs.Chains.{path_pop}
use Rattle.fronts.proofs.Joining.{joined_on, joined_here, covers_on}
use Rattle.fronts.proofs.insertion.join.Goals as goal

-- what the last of the passed entries is
popped : {V : Type 0} (entries : List (FrontEntry V)) (head was b : ℕ) (passed rest : List ℕ) → passed ≡ rest ++ b ∷ []
    → IsPath entries head passed was → IsPath entries head rest b × (0 < b) × (b < length entries)
    × (next_of entries b ≡ was)
popped entries head was b passed rest e path = path_pop (next_of entries) (length entries) head rest b was (subst (λ bs. IsPath entries head bs was) e path)

is_earlier : {V : Type 0} (rules : Rules V) (first mid : List (FrontEntry V)) (first_items mid_items : List (Item V))
    (head was b index now : ℕ) (passed rest : List ℕ) → AreEntries rules first first_items → Extends first mid
    → Extends first_items mid_items → passed ≡ rest ++ b ∷ [] → IsPath first head passed was
    → DepartBefore first (departure_of first index) passed
    → (departure_of first index ≤ departure_of mid now) ⊎ ((0 < was) × (departure_of first was ≤ departure_of mid now))
    → departure_of mid b < departure_of mid now
is_earlier rules first mid first_items mid_items head was b index now passed rest are entries items e path before late =
    let p = popped first head was b passed rest e path in
    let same = same_departure rules first mid first_items mid_items are entries items b p.2 in
    elim late [
      | inl l ↦ (let lt = before b (subst (λ bs. Contains bs b) (sym e) (Contains-push rest b)) in omega arith)
      | inr l ↦
          let up : departure_of first b < departure_of first was =
          subst (λ n. departure_of first b < departure_of first n) p.3
          ((are.each b).rises (subst (λ n. 0 < n) (sym p.3) l.0)) in
          omega (arith, l.1)
    ]

pub loop-from-init : goal.loop-from-init
loop-from-init g c =
    let rules = g.C.Criterion.rules c.args.criterion.now in
    record {
      more = same_entries rules c.args.entries.now.items c.args.items.now.items c.requires.may.sound;
      within = c.requires.may.within;
      early = c.requires.may.early;
      joined = (
        c.args.after,
        c.requires.may.path,
        c.requires.may.after_within,
        inl (omega arith),
        joined_here rules (points_from c.args.entries.now.items c.args.items.now.items c.args.after)
            (points_from c.args.entries.now.items c.args.items.now.items c.args.index) c.requires.may.covers,
      );
    }

pub join_one-requires : goal.join_one-requires
join_one-requires g c =
    let rules = g.C.Criterion.rules c.args.criterion.now in
    let first = c.args.entries.now.items in
    let mid = c.loop-from.entries.items in
    let more = c.loop-from.invariant.more in
    let j = c.loop-from.invariant.joined in
    let p = popped first c.args.head j.0 c.in-Some.from c.loop-from.passed.items c.pop.new.self.items c.in-Some.ensures.items j.1 in
    let grows = extends_long first mid more.entries_more in
    record {
      may = record {
        sound = more.sound;
        some = p.1;
        from_within = omega (arith, grows, p.2);
        within = c.loop-from.invariant.within;
        early = is_earlier rules first mid c.args.items.now.items c.loop-from.items.items c.args.head j.0 c.in-Some.from c.args.index
            c.loop-from.new c.loop-from.passed.items c.pop.new.self.items c.requires.may.sound more.entries_more more.items_more
            c.in-Some.ensures.items j.1 c.loop-from.invariant.early j.3;
        covers = covers_on rules first mid c.args.items.now.items c.loop-from.items.items j.0 c.in-Some.from
            (points_from first c.args.items.now.items c.args.index) (points_from mid c.loop-from.items.items c.loop-from.new)
            c.requires.may.sound more.entries_more more.items_more p.2 j.2 p.3 j.4;
      };
    }

pub loop-from-preserved : goal.loop-from-preserved
loop-from-preserved g c =
    let rules = g.C.Criterion.rules c.args.criterion.now in
    let first = c.args.entries.now.items in
    let mid = c.loop-from.entries.items in
    let last = c.join_one.new.entries.items in
    let inv = c.loop-from.invariant in
    let j = inv.joined in
    let b = c.in-Some.from in
    let p = popped first c.args.head j.0 b c.loop-from.passed.items c.pop.new.self.items c.in-Some.ensures.items j.1 in
    let same = same_departure rules first mid c.args.items.now.items c.loop-from.items.items c.requires.may.sound inv.more.entries_more
    inv.more.items_more b p.2 in
    let late = c.in_ok-new.ensures.late in
    record {
      more = still_more rules first mid last c.args.items.now.items c.loop-from.items.items c.join_one.new.items.items inv.more
          c.in_ok-new.ensures.joined.more_are;
      within = c.in_ok-new.ensures.joined.within;
      early = λ x h. inv.early x (subst (λ bs. Contains bs x) (sym c.in-Some.ensures.items) (Contains-append_left c.pop.new.self.items (b ∷ []) x h));
      joined = (
        b,
        p.0,
        p.2,
        inr (p.1, omega arith),
        joined_on rules first mid c.args.items.now.items c.loop-from.items.items j.0 b c.args.index
            (points_from mid c.loop-from.items.items c.loop-from.new)
            (points_from last c.join_one.new.items.items c.in_ok-new.new) c.requires.may.sound inv.more.entries_more
            inv.more.items_more p.2 p.3 j.4 c.in_ok-new.ensures.joined.union,
      );
    }

pub returns-in_err-new : goal.returns-in_err-new
returns-in_err-new g c =
    match_err _ _ c.from_residual.result c.from_residual.ensures.1
    (still_more (g.C.Criterion.rules c.args.criterion.now) c.args.entries.now.items c.loop-from.entries.items
    c.join_one.new.entries.items c.args.items.now.items c.loop-from.items.items c.join_one.new.items.items
    c.loop-from.invariant.more c.in_err-new.ensures)

pub returns : goal.returns
unfolding points_to
returns g c = record { more_are = c.loop-from.invariant.more; within = c.loop-from.invariant.within; union = search rules }
