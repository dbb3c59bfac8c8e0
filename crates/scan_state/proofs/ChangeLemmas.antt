-- Changes: the front of a list from a time on stands for all of it that departs then or later.
use Rattle.std.proofs.Common.{◌≡◌, ℕ, ◌+◌, ◌≤◌, List, length, Contains, slice_get, Some, inl, inr, refl, arith}
use Rattle.criteria.specs.Laws.{Rules, Laws, Admits}
use Rattle.bags.specs.declared.point.Point.{Point}
use Rattle.fronts.specs.Lists.{IsBettered}
use Rattle.scan_state.specs.Matching.{Spellings}
use Rattle.scan_state.specs.Steps.{Offer}
use Rattle.scan_state.specs.Bound.{Excludes}
use Rattle.scan_state.specs.ScanRecords.{IsExit, KeptValue}
use Rattle.scan_state.specs.Adding.{one_way, each_of, StandsBefore, changes_from}
use Rattle.scan_state.specs.KeptParts.{LabelsTake, takes_changes}
use Rattle.scan_state.specs.declared.hop.Hop.{Hop}
use Rattle.scan_state.specs.declared.scan_records.Exit.TheVariants.{Changes}
use Rattle.scan_state.proofs.Admitted.{AreAdmitted}
use Rattle.scan_state.proofs.BoundLemmas.{bettered_on}
use Rattle.scan_state.proofs.KeptLemmas.{labels_as, labels_none, labels_then}
use Rattle.scan_state.proofs.Offers.{all_stand, but_as, each_more, stands_in}

-- points of a front are of a list, late enough, and admitted, and for each that is late enough one of them is no worse
pub record StandsFor {V : Type 0} (rules : Rules V) (points : List (Point V)) (time : ℕ) (front : List (Point V)) : Type 0 where
  pub made_of : (p : Point V) → Contains front p → Contains points p × (time ≤ p.departure) × Admits rules p.value
  pub betters : (p : Point V) → Contains points p → time ≤ p.departure → IsBettered rules front p.value

-- one point of it
abbrev pub change_way : {V : Type 0} → Spellings → ℕ → Point V → Offer (Unit {0}) V
change_way tags last p = one_way 0 p.value (IsExit tags (Changes last p.tag))

-- the first n of its points, but for those that the bound excludes
abbrev pub takes_first_changes : {V : Type 0} → Rules V → Hop V → List (Point V) → ℕ → KeptValue V → KeptValue V → Type 0
takes_first_changes rules hop front n =
    LabelsTake rules hop.connection.trip (λ way. Excludes rules hop.bound.now way.0.value)
    (λ tags. each_of (StandsBefore front n) (change_way tags hop.place))

module _ {V : Type 0} (rules : Rules V) (hop : Hop V) (front : List (Point V)) where
  pub no_changes : (kept : KeptValue V) → takes_first_changes rules hop front 0 kept kept
  no_changes kept = labels_none rules (λ tags way opened. absurd (omega (arith, opened.0.1)))

  pub changes_next : (n : ℕ) (x : Point V) {old mid new : KeptValue V} → slice_get front n ≡ Some x → AreAdmitted rules front
      → takes_first_changes rules hop front n old mid
      → LabelsTake rules hop.connection.trip (λ _. Excludes rules hop.bound.now x.value) (λ tags. change_way tags hop.place x) mid new
      → takes_first_changes rules hop front (n + 1) old new
  changes_next n x at admitted =
      labels_then rules (λ tags. each_more rules front (change_way tags hop.place) (λ p. Excludes rules hop.bound.now p.value) n x at
      (λ y way is opened. admitted y is))

  -- all of them
  pub changes_all : Laws rules → (points : List (Point V)) → AreAdmitted rules points → ((b : V) → Contains hop.bound.now b → Admits rules b)
      → StandsFor rules points hop.connection.arr front → (n : ℕ) → length front ≤ n → {old new : KeptValue V}
      → AreAdmitted rules (new.labels hop.connection.trip)
      → takes_first_changes rules hop front n old new → takes_changes rules hop points old new
  changes_all laws points admitted bound stands n long {old} {new} new_admitted =
      let Excused : Point V → Type 0 = λ p. Excludes rules hop.bound.now p.value in
      labels_as rules (λ tags taken. but_as rules (λ way. Excused way.0) Excused (each_of (StandsBefore front n) (change_way tags hop.place))
      (changes_from tags hop.place hop.connection.arr points) (old.labels hop.connection.trip) (new.labels hop.connection.trip)
      (λ way opened.
      let is = stands.made_of way.0 (stands_in front n way.0 opened.0) in
      record { there = way.0; is_open = (is.0, is.1); departs = refl; worth = refl; fits = λ tag h. h })
      (λ p opened.
      let r = stands.betters p opened.0 opened.1 in
      let r_admitted = (stands.made_of r.0 r.1).2 in
      let p_admitted = admitted p opened.0 in
      elim (taken.covered (r.0, tt) (all_stand front n r.0 long r.1, tt)) [
        | inl c ↦ inl (c.0, c.1, c.2, laws.transitive c.0.value r.0.value p.value (new_admitted c.0 c.1) r_admitted p_admitted c.3 r.2)
        | inr excluded ↦ inr (bettered_on rules laws hop.bound.now bound (rules.ride r.0.value) (rules.ride p.value)
            (laws.ride_admits r.0.value r_admitted) (laws.ride_admits p.value p_admitted)
            (laws.ride_monotone r.0.value p.value r_admitted p_admitted r.2) excluded)
      ]) taken)
