-- Offers taken in, one after another.
use Rattle.std.proofs.Common.{◌≡◌, ◌⊎◌, ℕ, ◌+◌, ◌≤◌, Bool, true, false, nat_le, List, length, Contains, slice_get}
use Rattle.std.proofs.Common.{Option, Some, None, IfSome, Result, Ok, Err, IfOk, OnOk, refl, sym, ◌∙◌, ap, subst, inl, inr}
use Rattle.std.proofs.Common.{arith}
use Rattle.std.proofs.lemmas.Bool.{cases_Bool, cases_lt, leb-true, and_parts, true≢false}
use Rattle.std.proofs.lemmas.Option.{slice_get_within, same_Some}
use Rattle.timetable.proofs.LegalLemmas.{Contains-At, At-Contains}
use Rattle.criteria.specs.Laws.{Rules, Laws, Admits, NoWorse, IsSecs}
use Rattle.timetable.specs.declared.network.Footpath.{Footpath}
use Rattle.scan_state.specs.Values.{started}
use Rattle.bags.specs.Dominance.{IsBag, Inserted, Stands, dominates, Dominates}
use Rattle.bags.specs.declared.point.Point.{Point}
use Rattle.scan_state.specs.Points.{Covers}
use Rattle.scan_state.specs.Steps.{Offer, IsOffered, TakesIn, TakesInBut}
use Rattle.scan_state.specs.Adding.{one_way, each_of, StandsBefore, only_if}

-- what can't be otherwise
pub sure : {P : Type 0} → P ⊎ ⊥ → P
sure (inl is) = is
sure (inr none) = absurd none

-- a bag under an equal criterion
pub bag_under : {K V : Type 0} (rules : K → Rules V) (a b : K) (xs : List (Point V)) → a ≡ b → IsBag (rules a) xs → IsBag (rules b) xs
bag_under rules a b xs e bag = subst (λ k. IsBag (rules k) xs) e bag

dominated : {V : Type 0} (rules : Rules V) (p q : Point V) → Dominates rules p q → (q.departure ≤ p.departure) × NoWorse rules p.value q.value
dominated rules p q d =
    let h = and_parts (nat_le q.departure p.departure) (rules.no_worse p.value q.value) d in
    (leb-true q.departure p.departure h.0, h.1)

module _ {V : Type 0} (rules : Rules V) where
  -- nothing is taken of an offer with no open way
  pub takes_none : {A : Type 0} (offer : Offer A V) (points : List (Point V)) → ((way : A) → offer.is_open way → ⊥) → TakesIn rules offer points points
  takes_none offer points none = record {
    only = λ p h. inl h;
    kept = λ d v a c. c;
    covered = λ way opened. absurd (none way opened);
  }

  -- a point inserted is one way taken in
  pub inserted_takes : (laws : Laws rules) (old new : List (Point V)) (p : Point V) (fits : ℕ → Type 0) (stands : Bool)
      → IsBag rules old → Admits rules p.value → Stands rules old p stands → Inserted rules old p stands new
      → (stands ≡ true → fits p.tag) → TakesIn rules (one_way p.departure p.value fits) old new
  inserted_takes laws old new p fits true bag admitted none is named = record {
    only = λ q h. elim ((is q).0 h) [
      | inl e ↦ inr (record {
        way = tt;
        is_open = tt;
        departs = ap (λ (x : Point V). x.departure) e;
        worth = ap (λ (x : Point V). x.value) e;
        fits = subst (λ (x : Point V). fits x.tag) (sym e) (named refl);
      })
      | inr was ↦ inl was.0
    ];
    kept = λ d v a c. elim (cases_Bool (dominates rules p c.0)) [
      | inl dom ↦
          let h = dominated rules p c.0 dom in
          let late : d ≤ p.departure = omega (arith, c.2, h.0) in
          (p, (is p).1 (inl refl), late, laws.transitive p.value c.0.value v admitted (bag.admitted c.0 c.1) a h.1 c.3)
      | inr free ↦ (c.0, (is c.0).1 (inr (c.1, λ dom. true≢false (sym dom ∙ free))), c.2, c.3)
    ];
    covered = λ way opened. (p, (is p).1 (inl refl), omega arith, laws.reflexive p.value admitted);
  }
  inserted_takes laws old new p fits false bag admitted above is named = record {
    only = λ q h. inl (subst (λ xs. Contains xs q) is h);
    kept = λ d v a c. subst (λ xs. Covers rules xs d v) (sym is) c;
    covered = λ way opened.
        let h = dominated rules above.0 p above.2 in
        subst (λ xs. Covers rules xs p.departure p.value) (sym is) (above.0, above.1, h.0, h.1);
  }

  -- a way of one offer is one of another
  pub record IsPart {A B : Type 0} (a : Offer A V) (b : Offer B V) (way : A) : Type 0 where
    pub there : B
    pub is_open : b.is_open there
    pub departs : a.departure way ≡ b.departure there
    pub worth : a.value way ≡ b.value there
    pub fits : (tag : ℕ) → a.fits_tag way tag → b.fits_tag there tag

  offered_as : {A B : Type 0} (a : Offer A V) (b : Offer B V) → ((way : A) → a.is_open way → IsPart a b way) → (p : Point V)
      → IsOffered a p → IsOffered b p
  offered_as a b part p o =
      let same = part o.way o.is_open in
      record {
        way = same.there;
        is_open = same.is_open;
        departs = o.departs ∙ same.departs;
        worth = o.worth ∙ same.worth;
        fits = same.fits p.tag o.fits;
      }

  -- what is taken in, seen as another offer
  pub takes_as : {A B : Type 0} (a : Offer A V) (b : Offer B V) (old new : List (Point V))
      → ((way : A) → a.is_open way → IsPart a b way)
      → ((way : B) → b.is_open way → Covers rules new (b.departure way) (b.value way)) → TakesIn rules a old new
      → TakesIn rules b old new
  takes_as a b old new part covered takes = record {
    only = λ p h. elim (takes.only p h) [ inl was ↦ inl was | inr o ↦ inr (offered_as a b part p o) ];
    kept = takes.kept;
    covered = covered;
  }

  -- nothing need be excused
  pub takes_but : {A : Type 0} (Excused : A → Type 0) (offer : Offer A V) (old new : List (Point V)) → TakesIn rules offer old new
      → TakesInBut rules Excused offer old new
  takes_but Excused offer old new takes = record {
    only = takes.only;
    kept = takes.kept;
    covered = λ way opened. inl (takes.covered way opened);
  }

  -- what is taken in, seen as another offer with other excuses
  pub but_as : {A B : Type 0} (Was : A → Type 0) (Excused : B → Type 0) (a : Offer A V) (b : Offer B V) (old new : List (Point V))
      → ((way : A) → a.is_open way → IsPart a b way)
      → ((way : B) → b.is_open way → Covers rules new (b.departure way) (b.value way) ⊎ Excused way) → TakesInBut rules Was a old new
      → TakesInBut rules Excused b old new
  but_as Was Excused a b old new part covered takes = record {
    only = λ p h. elim (takes.only p h) [ inl was ↦ inl was | inr o ↦ inr (offered_as a b part p o) ];
    kept = takes.kept;
    covered = covered;
  }

  -- nothing is taken of an offer with no open way, whatever is excused
  pub but_none : {A : Type 0} (Excused : A → Type 0) (offer : Offer A V) (points : List (Point V)) → ((way : A) → offer.is_open way → ⊥)
      → TakesInBut rules Excused offer points points
  but_none Excused offer points none = takes_but Excused offer points points (takes_none offer points none)

  -- of two offers taken in one after the other, each way is one of a third
  pub but_then : {A B C : Type 0} {First : A → Type 0} {Second : B → Type 0} {Both : C → Type 0} {a : Offer A V} {b : Offer B V} {c : Offer C V}
      {old mid new : List (Point V)} → ((way : A) → a.is_open way → IsPart a c way) → ((way : B) → b.is_open way → IsPart b c way)
      → ((way : C) → c.is_open way → Covers rules new (c.departure way) (c.value way) ⊎ Both way)
      → TakesInBut rules First a old mid → TakesInBut rules Second b mid new → TakesInBut rules Both c old new
  but_then {a = a} {b = b} {c = c} first_part second_part covered first second = record {
    only = λ p h. elim (second.only p h) [
      | inl in_mid ↦ elim (first.only p in_mid) [ inl was ↦ inl was | inr o ↦ inr (offered_as a c first_part p o) ]
      | inr o ↦ inr (offered_as b c second_part p o)
    ];
    kept = λ d v a c. second.kept d v a (first.kept d v a c);
    covered = covered;
  }

  -- what was covered, or excused, still is
  pub kept_on : {A E : Type 0} {Excused : A → Type 0} {offer : Offer A V} {mid new : List (Point V)} {d : ℕ} {v : V}
      → TakesInBut rules Excused offer mid new → Admits rules v → Covers rules mid d v ⊎ E → Covers rules new d v ⊎ E
  kept_on {d = d} {v = v} second admitted (inl c) = inl (second.kept d v admitted c)
  kept_on second admitted (inr excused) = inr excused

  -- one element more, with an excuse of its own
  pub but_more : {X A : Type 0} (Was There : X → Type 0) (offer : X → Offer A V) (Excused : X → A → Type 0) (x : X) {old mid new : List (Point V)}
      → ((y : X) → Was y → There y) → There x → ((y : X) → There y → Was y ⊎ (y ≡ x))
      → ((y : X) (way : A) → Was y → (offer y).is_open way → Admits rules ((offer y).value way))
      → TakesInBut rules (λ way. Excused way.0 way.1) (each_of Was offer) old mid → TakesInBut rules (Excused x) (offer x) mid new
      → TakesInBut rules (λ way. Excused way.0 way.1) (each_of There offer) old new
  but_more {X} Was There offer Excused x {new = new} was_there there_x split admits before here =
      but_then
      (λ way opened. record { there = way; is_open = (was_there way.0 opened.0, opened.1); departs = refl; worth = refl; fits = λ tag h. h })
      (λ way opened. record { there = (x, way); is_open = (there_x, opened); departs = refl; worth = refl; fits = λ tag h. h })
      (λ way opened. elim (split way.0 opened.0) [
        | inl was ↦ kept_on here (admits way.0 way.1 was opened.1) (before.covered way (was, opened.1))
        | inr same ↦ subst (λ (y : X). Covers rules new ((offer y).departure way.1) ((offer y).value way.1) ⊎ Excused y way.1) (sym same)
            (here.covered way.1 (subst (λ (y : X). (offer y).is_open way.1) same opened.1))
      ]) before here

  -- where nothing is excused, all is taken in
  pub in_full : {A : Type 0} (offer : Offer A V) (old new : List (Point V)) → TakesInBut rules (λ _. ⊥) offer old new → TakesIn rules offer old new
  in_full offer old new takes = record { only = takes.only; kept = takes.kept; covered = λ way opened. sure (takes.covered way opened) }

  pub takes_more : {X A : Type 0} (Was There : X → Type 0) (offer : X → Offer A V) (x : X) (old mid new : List (Point V))
      → ((y : X) → Was y → There y) → There x → ((y : X) → There y → Was y ⊎ (y ≡ x))
      → ((y : X) (way : A) → Was y → (offer y).is_open way → Admits rules ((offer y).value way))
      → TakesIn rules (each_of Was offer) old mid → TakesIn rules (offer x) mid new
      → TakesIn rules (each_of There offer) old new
  takes_more Was There offer x old mid new was_there there_x split admits before here =
      in_full (each_of There offer) old new (but_more Was There offer (λ _ _. ⊥) x was_there there_x split admits
      (takes_but (λ _. ⊥) (each_of Was offer) old mid before) (takes_but (λ _. ⊥) (offer x) mid new here))

  -- with weaker excuses
  pub excused_as : {A : Type 0} (Was Excused : A → Type 0) (offer : Offer A V) (old new : List (Point V))
      → ((way : A) → offer.is_open way → Was way → Excused way) → TakesInBut rules Was offer old new → TakesInBut rules Excused offer old new
  excused_as Was Excused offer old new weaker takes = record {
    only = takes.only;
    kept = takes.kept;
    covered = λ way opened. elim (takes.covered way opened) [ inl c ↦ inl c | inr was ↦ inr (weaker way opened was) ];
  }

-- a point inserted under an equal criterion
pub inserted_under : {K V : Type 0} (rules : K
    → Rules V) (a b : K) (laws : Laws (rules b)) (old new : List (Point V)) (p : Point V) (fits : ℕ
    → Type 0) (stands : Bool) → a ≡ b → IsBag (rules a) old → Admits (rules b) p.value → Stands (rules a) old p stands
    → Inserted (rules a) old p stands new → (stands ≡ true → fits p.tag)
    → TakesIn (rules b) (one_way p.departure p.value fits) old new
inserted_under rules a b laws old new p fits stands e bag admitted is_stands is_inserted named =
    inserted_takes (rules b) laws old new p fits stands (bag_under rules a b old e bag) admitted
    (subst (λ k. Stands (rules k) old p stands) e is_stands) (subst (λ k. Inserted (rules k) old p stands new) e is_inserted) named

stands_more : {X : Type 0} (points : List X) (n : ℕ) (y : X) → StandsBefore points n y → StandsBefore points (n + 1) y
stands_more points n y s = (s.0, omega (arith, s.1), s.2)

pub stands_split : {X : Type 0} (points : List X) (n : ℕ) (x y : X) → slice_get points n ≡ Some x
    → StandsBefore points (n + 1) y → StandsBefore points n y ⊎ (y ≡ x)
stands_split points n x y at s = elim (cases_lt s.0 n) [
  | inl lt ↦ inl (s.0, lt, s.2)
  | inr ge ↦
      let same : s.0 ≡ n = omega (arith, s.1) in
      inr (same_Some y x (sym s.2 ∙ ap (λ k. slice_get points k) same ∙ at))
]

-- what stands below a place is in the list, and all of the list stands below its length
pub stands_in : {X : Type 0} (points : List X) (n : ℕ) (y : X) → StandsBefore points n y → Contains points y
stands_in points n y s = Contains-At points s.0 y s.2

pub all_stand : {X : Type 0} (points : List X) (n : ℕ) (y : X) → length points ≤ n → Contains points y → StandsBefore points n y
all_stand points n y le is =
    let at = At-Contains points y is in
    let lt = slice_get_within points at.0 y at.1 in
    (at.0, omega arith, at.1)

-- the element at the next place
pub takes_next : {X A V : Type 0} (rules : Rules V) (points : List X) (offer : X
    → Offer A V) (n : ℕ) (x : X) (old mid new : List (Point V)) → slice_get points n ≡ Some x
    → ((y : X) (way : A) → Contains points y → (offer y).is_open way → Admits rules ((offer y).value way))
    → TakesIn rules (each_of (StandsBefore points n) offer) old mid → TakesIn rules (offer x) mid new
    → TakesIn rules (each_of (StandsBefore points (n + 1)) offer) old new
takes_next rules points offer n x old mid new at admits =
    takes_more rules (StandsBefore points n) (StandsBefore points (n + 1)) offer x old mid new (stands_more points n)
    (n, omega arith, at) (λ y. stands_split points n x y at) (λ y way s. admits y way (stands_in points n y s))

-- the same with an excuse of its own
pub each_more : {X A V : Type 0} (rules : Rules V) (points : List X) (offer : X → Offer A V) (Excused : X → Type 0) (n : ℕ) (x : X)
    {old mid new : List (Point V)} → slice_get points n ≡ Some x
    → ((y : X) (way : A) → Contains points y → (offer y).is_open way → Admits rules ((offer y).value way))
    → TakesInBut rules (λ way. Excused way.0) (each_of (StandsBefore points n) offer) old mid → TakesInBut rules (λ _. Excused x) (offer x) mid new
    → TakesInBut rules (λ way. Excused way.0) (each_of (StandsBefore points (n + 1)) offer) old new
each_more rules points offer Excused n x at admits =
    but_more rules (StandsBefore points n) (StandsBefore points (n + 1)) offer (λ y _. Excused y) x (stands_more points n) (n, omega arith, at)
    (λ y. stands_split points n x y at) (λ y way s. admits y way (stands_in points n y s))

pub takes_first : {X A V : Type 0} (rules : Rules V) (points : List X) (offer : X → Offer A V) (old : List (Point V))
    → TakesIn rules (each_of (StandsBefore points 0) offer) old old
takes_first rules points offer old = takes_none rules (each_of (StandsBefore points 0) offer) old (λ way opened. absurd (omega (arith, opened.0.1)))

-- one way, at an equal value
pub takes_worth : {V : Type 0} (rules : Rules V) (departure : ℕ) (v w : V) (fits : ℕ
    → Type 0) (old new : List (Point V)) → v ≡ w → TakesIn rules (one_way departure v fits) old new
    → TakesIn rules (one_way departure w fits) old new
takes_worth rules departure v w fits old new e takes = subst (λ x. TakesIn rules (one_way departure x fits) old new) e takes

-- all elements of a list, each with one way
pub takes_all : {X V : Type 0} (rules : Rules V) (points : List X) (departure : ℕ) (value : X → V) (fits other : X → ℕ
    → Type 0) (n : ℕ) (old new : List (Point V)) → length points ≤ n → ((x : X) (tag : ℕ) → fits x tag → other x tag)
    → TakesIn rules (each_of (StandsBefore points n) (λ x. one_way departure (value x) (fits x))) old new
    → TakesIn rules (record { is_open = Contains points; departure = λ _. departure; value = value; fits_tag = other }) old new
takes_all rules points departure value fits other n old new le into takes =
    takes_as rules (each_of (StandsBefore points n) (λ x. one_way departure (value x) (fits x))) (record {
      is_open =
          Contains points;
      departure = λ _. departure;
      value = value;
      fits_tag = other;
    }) old new
    (λ way opened. record { there = way.0; is_open = stands_in points n way.0 opened.0; departs = refl; worth = refl; fits = into way.0 })
    (λ x is. takes.covered (x, tt) (all_stand points n x le is, tt))
    takes

-- a start keeps a value admitted
pub start_admits : {V : Type 0} (rules : Rules V) → Laws rules → (start : Option Footpath) (v : V)
    → IfSome start (λ walk. IsSecs walk.secs) → Admits rules v → Admits rules (started rules start v)
start_admits rules laws None v secs a = a
start_admits rules laws (Some f) v secs a = laws.walk_admits f.secs v secs a

module _ {V : Type 0} (rules : Rules V) where
  -- under a condition that holds
  pub takes_if : {A : Type 0} (P : Type 0) (a : Offer A V) (old new : List (Point V)) → P → TakesIn rules a old new → TakesIn rules (only_if P a) old new
  takes_if P a old new holds takes =
      takes_as rules a (only_if P a) old new (λ way opened. record {
        there = way;
        is_open = (holds, opened);
        departs =
            refl;
        worth = refl;
        fits = λ tag h. h;
      }) (λ way opened. takes.covered way opened.1) takes

  -- under one that doesn't
  pub takes_unless : {A : Type 0} (P : Type 0) (a : Offer A V) (points : List (Point V)) → (P → ⊥) → TakesIn rules (only_if P a) points points
  takes_unless P a points fails = takes_none rules (only_if P a) points (λ way opened. fails opened.0)

pub on_ok_more : {T E : Type 0} (r : Result T E) (P Q : Type 0) → (P → Q) → OnOk r P → OnOk r Q
on_ok_more (Ok x) P Q f h = f h
on_ok_more (Err e) P Q f h = h

pub if_ok_both : {T E : Type 0} (r : Result T E) (P Q R : T → Type 0) → ((x : T) → P x → Q x → R x) → IfOk r P → IfOk r Q → IfOk r R
if_ok_both (Ok x) P Q R f p q = f x p q
if_ok_both (Err e) P Q R f p q = p
