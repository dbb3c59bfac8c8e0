use Rattle.std.proofs.Common.{◌≡◌, ◌&&◌, nat_le, nat_lt, true, [], ◌∷◌, Contains, inl, inr, sym, subst, arith}
use Rattle.std.proofs.lemmas.Bool.{and_from, le-leb, lt-ltb}
use Rattle.std.proofs.lemmas.Result.{IfOk-weaker}
use Rattle.std.proofs.lemmas.List.Elements.{Contains-push_cases}
use Rattle.reasoning.proofs.ListLemmas.{not_in_nil}
use Rattle.criteria.specs.Laws.{IsSecs, time_limit}
use Rattle.criteria.specs.declared.arrival_trips.TimeTrips.{TimeTrips}
use Rattle.fronts.specs.declared.entry.Boarding.{Boarding}
use Rattle.fronts.specs.declared.entry.RiddenLabel.{RiddenLabel}
use Rattle.fronts.specs.Lists.{entries_of}
use Rattle.fronts.proofs.Growth.{extends_long}
use Rattle.tests_scan.proofs.tests.listing.take.Goals as goal

of_one : (x r : RiddenLabel TimeTrips) → Contains (x ∷ []) r
    → (nat_lt x.value.time time_limit && nat_le x.value.trips 65535) ≡ true
    → (nat_lt r.value.time time_limit && nat_le r.value.trips 65535) ≡ true
of_one x r h a = elim (Contains-push_cases [] x r h) [
  | inl none ↦ absurd (not_in_nil r none)
  | inr e ↦ subst (λ (z : RiddenLabel TimeTrips). (nat_lt z.value.time time_limit && nat_le z.value.trips 65535) ≡ true) e a
]

pub insert-requires : goal.insert-requires
insert-requires c = record {
  may = record {
    sound = c.requires.sound;
    within = c.requires.head;
    short = subst (λ (by : Boarding). IsSecs by.secs) (sym c.without_walk.ensures) (omega arith);
    admitted = λ r h.
        of_one (record { value = record { time = c.args.time; trips = c.args.trips }; label = c.args.label }) r h
        (and_from (nat_lt c.args.time time_limit) (nat_le c.args.trips 65535)
        (lt-ltb c.args.time time_limit c.requires.time) (le-leb c.args.trips 65535 (omega arith)));
  };
}

pub returns-clause-grows : goal.returns-clause-grows
returns-clause-grows c = extends_long (entries_of c.args.lists.now) (entries_of c.insert.new.self) c.insert.ensures.more.entries

pub returns-clause-within : goal.returns-clause-within
returns-clause-within c = IfOk-weaker c.insert.result _ _ (λ new taken. taken.within) c.insert.ensures.taken
