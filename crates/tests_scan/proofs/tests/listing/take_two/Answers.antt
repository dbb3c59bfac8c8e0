use Rattle.std.proofs.Common.{◌≡◌, ℕ, ◌<◌, ◌≤◌, ◌&&◌, nat_le, nat_lt, true, [], ◌∷◌, Contains, inl, inr, sym, subst, arith}
use Rattle.std.proofs.lemmas.Bool.{and_from, le-leb, lt-ltb}
use Rattle.std.proofs.lemmas.Result.{IfOk-weaker}
use Rattle.std.proofs.lemmas.List.Elements.{Contains-push_cases}
use Rattle.reasoning.proofs.ListLemmas.{not_in_nil}
use Rattle.criteria.specs.Laws.{IsSecs, time_limit}
use Rattle.criteria.specs.declared.arrival_trips.TimeTrips.{TimeTrips}
use Rattle.fronts.specs.declared.entry.Boarding.{Boarding}
use Rattle.fronts.specs.declared.entry.RiddenLabel.{RiddenLabel}
use Rattle.fronts.specs.Lists.{entries_of}
use Rattle.fronts.proofs.Growth.{extends_long}
use Rattle.tests_scan.proofs.tests.listing.take_two.Goals as goal

of_two : (x y r : RiddenLabel TimeTrips) → Contains (x ∷ y ∷ []) r
    → (nat_lt x.value.time time_limit && nat_le x.value.trips 65535) ≡ true
    → (nat_lt y.value.time time_limit && nat_le y.value.trips 65535) ≡ true
    → (nat_lt r.value.time time_limit && nat_le r.value.trips 65535) ≡ true
of_two x y r h a b = elim (Contains-push_cases (x ∷ []) y r h) [
  | inl first ↦ elim (Contains-push_cases [] x r first) [
    | inl none ↦ absurd (not_in_nil r none)
    | inr e ↦ subst (λ (z : RiddenLabel TimeTrips). (nat_lt z.value.time time_limit && nat_le z.value.trips 65535) ≡ true) e a
  ]
  | inr e ↦ subst (λ (z : RiddenLabel TimeTrips). (nat_lt z.value.time time_limit && nat_le z.value.trips 65535) ≡ true) e b
]

fair : (time trips : ℕ) → time < time_limit → trips ≤ 65535 → (nat_lt time time_limit && nat_le trips 65535) ≡ true
fair time trips early few = and_from (nat_lt time time_limit) (nat_le trips 65535) (lt-ltb time time_limit early) (le-leb trips 65535 few)

pub insert-requires : goal.insert-requires
insert-requires c = record {
  may = record {
    sound = c.requires.sound;
    within = c.requires.head;
    short = subst (λ (by : Boarding). IsSecs by.secs) (sym c.without_walk.ensures) (omega arith);
    admitted = λ r h.
        of_two (record { value = c.args.first; label = 1 }) (record { value = c.args.second; label = 2 }) r h
        (fair c.args.first.time c.args.first.trips c.requires.first (omega arith))
        (fair c.args.second.time c.args.second.trips c.requires.second (omega arith));
  };
}

pub returns-clause-grows : goal.returns-clause-grows
returns-clause-grows c = extends_long (entries_of c.args.lists.now) (entries_of c.insert.new.self) c.insert.ensures.more.entries

pub returns-clause-within : goal.returns-clause-within
returns-clause-within c = IfOk-weaker c.insert.result _ _ (λ new taken. taken.within) c.insert.ensures.taken
