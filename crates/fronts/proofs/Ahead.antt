-- One value taken in before a list that begins no earlier.
use Rattle.std.proofs.Common.{◌≡◌, ◌⊎◌, ℕ, zero, suc, ◌≤◌, Bool, true, false, List, [], ◌∷◌, ◌++◌, length}
use Rattle.std.proofs.Common.{Contains, inl, inr, refl, sym, ◌∙◌, ap, subst, arith}
use Rattle.std.proofs.lemmas.List.Elements.{Contains-push}
use Rattle.reasoning.proofs.ListLemmas.{contains_only, not_in_nil}
use Rattle.criteria.specs.Laws.{Rules, Laws, Admits}
use Rattle.fronts.specs.declared.entry.Boarding.{Boarding}
use Rattle.fronts.specs.declared.entry.Item.{Item}
use Rattle.fronts.specs.declared.entry.FrontEntry.{FrontEntry}
use Rattle.fronts.specs.declared.entry.RiddenLabel.{RiddenLabel}
use Rattle.fronts.specs.declared.entry.Step.{Step}
use Rattle.fronts.specs.Front.{front, departure_of, points_from, Betters}
use Rattle.fronts.specs.Putting.{betters, IsLate, MayPut, IsUnion}
use Rattle.fronts.specs.Walking.{AllWalked, MayInsert, TakesBoardings}
use Rattle.fronts.proofs.Walks.{boardings_none, boardings_more}
use Rattle.fronts.proofs.OnePut.{betters_some}
use Rattle.fronts.proofs.Inserted.{AreWalked, takes_none, takes_may, takes_put}

-- a front that was read betters a value
pub read_low : {V : Type 0} (rules : Rules V) (entries met : List (FrontEntry V)) (items met_items : List (Item V)) (m : ℕ) (v w : V) (test : Bool)
    → met ≡ entries → met_items ≡ items → v ≡ w → test ≡ betters rules (front met met_items m) v → test ≡ true
    → Betters rules (front entries items m) w
read_low rules entries met items met_items m v w test met_is items_are worth is low =
    let read = betters_some rules (front met met_items m) v (sym is ∙ low) in
    subst (λ es. Betters rules (front es items m) w) met_is (subst (λ ps. Betters rules (front met ps m) w) items_are
    (subst (λ z. Betters rules (front met met_items m) z) worth read))

-- or betters it not
pub read_fresh : {V : Type 0} (rules : Rules V) (entries met : List (FrontEntry V)) (items met_items : List (Item V)) (m : ℕ) (v : V) (test : Bool)
    → met ≡ entries → met_items ≡ items → test ≡ betters rules (front met met_items m) v → test ≡ false
    → betters rules (front entries items m) v ≡ false
read_fresh rules entries met items met_items m v test met_is items_are is fresh =
    sym (ap (λ es. betters rules (front es met_items m) v) met_is ∙ ap (λ ps. betters rules (front entries ps m) v) items_are)
    ∙ sym is ∙ fresh

module _ {V : Type 0} (rules : Rules V) (ride : RiddenLabel V) where
  one_walked : (secs : ℕ) (points kept : List (Item V))
      → Betters rules kept (rules.walk secs ride.value) ⊎ Betters rules points (rules.walk secs ride.value)
      → AllWalked rules points secs (ride ∷ []) (length (ride ∷ [])) kept
  one_walked secs points kept low zero d lt = low
  one_walked secs points kept low (suc k) d lt = absurd (omega arith)

  -- the value is bettered by a front of what departs at a time or later
  pub late_none : (laws : Laws rules) (entries : List (FrontEntry V)) (items : List (Item V)) (head : ℕ) (boarding : Boarding)
      → MayInsert rules entries items head boarding.secs (ride ∷ []) → (after : ℕ)
      → IsLate entries items head boarding.departure after → (steps : List Step)
      → Betters rules (front entries items after) (rules.walk boarding.secs ride.value)
      → TakesBoardings rules steps boarding (ride ∷ []) (points_from entries items head) (points_from entries items head)
  late_none laws entries items head boarding may after late steps low =
      let known : AreWalked rules entries items head boarding after (ride ∷ []) steps [] = record {
        may = may;
        late = late;
        keeps = record {
          boarded = boardings_none rules boarding (ride ∷ []) steps [] refl;
          fresh = λ p h. absurd (not_in_nil p h);
          all = one_walked boarding.secs (front entries items after) [] (inr low);
        };
      } in
      takes_none rules laws entries items head boarding after (ride ∷ []) steps [] known refl

module _ {V : Type 0} (rules : Rules V) (laws : Laws rules) (entries : List (FrontEntry V)) (items : List (Item V))
    (head : ℕ) (boarding : Boarding) (ride : RiddenLabel V) (may : MayInsert rules entries items head boarding.secs (ride ∷ []))
    (ahead : boarding.departure ≤ departure_of entries head) where
  -- the list itself is what departs then or later
  late_here : IsLate entries items head boarding.departure head
  late_here = record { within = may.within; late = ahead; only = λ p h. h; all = λ p h late. h }

  -- the value is bettered
  pub ahead_none : (steps : List Step) → Betters rules (front entries items head) (rules.walk boarding.secs ride.value)
      → TakesBoardings rules steps boarding (ride ∷ []) (points_from entries items head) (points_from entries items head)
  ahead_none steps low = late_none rules ride laws entries items head boarding may head late_here steps low

  module _ (steps new : List Step) (tag : ℕ) (v : V) (worth : v ≡ rules.walk boarding.secs ride.value)
      (pushed : new ≡ steps ++ record { first = boarding.first; label = ride.label; walk = boarding.walk } ∷ []) (numbered : tag ≡ length steps)
      (fresh : betters rules (front entries items head) v ≡ false) where
    -- the value, with its step's index
    value_kept : ℕ → List (Item V)
    value_kept n = record { departure = boarding.departure; value = v; tag = n } ∷ []

    known_at : AreWalked rules entries items head boarding head (ride ∷ []) new (value_kept (length steps))
    unfolding value_kept
    known_at =
        let admitted = subst (Admits rules) (sym worth) (laws.walk_admits boarding.secs ride.value may.short (may.admitted ride (Contains-push [] ride))) in
        let m = boardings_more rules boarding (ride ∷ []) laws steps new [] (value_kept (length steps)) v ride
        (boardings_none rules boarding (ride ∷ []) steps [] refl) admitted (Contains-push [] ride) worth
        (record { steps_more = pushed; kept_more = refl }) in
        record {
          may = may;
          late = late_here;
          keeps = record {
            boarded = m.0;
            fresh = λ p h. subst (λ (z : Item V). betters rules (front entries items head) z.value ≡ false)
                (sym (contains_only (record { departure = boarding.departure; value = v; tag = length steps }) p h)) fresh;
            all = one_walked rules ride boarding.secs (front entries items head) (value_kept (length steps))
                (inl (subst (Betters rules (value_kept (length steps))) worth m.2));
          };
        }

    known_one : AreWalked rules entries items head boarding head (ride ∷ []) new
        (record { departure = boarding.departure; value = v; tag = tag } ∷ [])
    unfolding value_kept
    known_one = subst (λ n. AreWalked rules entries items head boarding head (ride ∷ []) new (value_kept n))
        (sym numbered) known_at

    -- it may be put
    pub ahead_may : MayPut rules entries items boarding.departure head (record { departure = boarding.departure; value = v; tag = tag } ∷ [])
    ahead_may = takes_may rules laws entries items head boarding head (ride ∷ []) new
        (record { departure = boarding.departure; value = v; tag = tag } ∷ []) known_one (omega arith)

    -- and is then taken in
    pub ahead_one : (put : List (Item V))
        → IsUnion rules (record { departure = boarding.departure; value = v; tag = tag } ∷ []) (points_from entries items head) put
        → TakesBoardings rules new boarding (ride ∷ []) (points_from entries items head) put
    ahead_one put union = takes_put rules laws entries items head boarding head (ride ∷ []) new
        (record { departure = boarding.departure; value = v; tag = tag } ∷ []) known_one put (λ d w a c. c) union
