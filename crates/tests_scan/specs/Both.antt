-- Two criteria at once: a value is a pair of values, and no worse if both parts are no worse.
use Rattle.std.specs.Prelude.{◌≡◌, ◌&&◌}
use Rattle.std.specs.Ordering.{is_lt, is_eq, ordering_then, ordering_reverse}
use Rattle.std.specs.declared.cmp.Ordering.{Ordering}
use Rattle.std.specs.declared.cmp.Ordering.TheVariants.{Less, Equal, Greater}
use Rattle.std.proofs.Common.{refl, sym, ap, subst, ◌∙◌}
use Rattle.std.proofs.lemmas.Bool.{and_parts, and_from, false≢true}
use Rattle.criteria.specs.Laws.{Rules, Laws, Admits, NoWorse}

-- pairs are listed by the first part, then by the second
abbrev pub both_rules : {V W : Type 0} → Rules V → Rules W → Rules (V × W)
both_rules a b = record {
  arrive = λ time. (a.arrive time, b.arrive time);
  ride = λ v. (a.ride v.0, b.ride v.1);
  walk = λ secs v. (a.walk secs v.0, b.walk secs v.1);
  no_worse = λ v w. a.no_worse v.0 w.0 && b.no_worse v.1 w.1;
  list_order = λ v w. ordering_then (a.list_order v.0 w.0) (b.list_order v.1 w.1);
  admits = λ v. a.admits v.0 && b.admits v.1;
}

not_less : {A : Type 0} → Greater ≡ Less → A
not_less e = absurd (false≢true (ap is_lt e))

turned : (p q r s : Ordering) → p ≡ ordering_reverse q → r ≡ ordering_reverse s → ordering_then p r ≡ ordering_reverse (ordering_then q s)
turned p Less r s h k = ap (λ o. ordering_then o r) h
turned p Equal r s h k = ap (λ o. ordering_then o r) h ∙ k
turned p Greater r s h k = ap (λ o. ordering_then o r) h

tied : (p q : Ordering) → ordering_then p q ≡ Equal → (p ≡ Equal) × (q ≡ Equal)
tied Less q e = absurd (false≢true (ap is_eq e))
tied Equal q e = (refl, e)
tied Greater q e = absurd (false≢true (ap is_eq e))

module _ {V W : Type 0} (a : Rules V) (b : Rules W) where
  abbrev both : Rules (V × W)
  both = both_rules a b

  parts : (v : V × W) → Admits both v → Admits a v.0 × Admits b v.1
  parts v h = and_parts (a.admits v.0) (b.admits v.1) h

  pair : (v : V) (w : W) → Admits a v → Admits b w → Admits both (v, w)
  pair v w h k = and_from (a.admits v) (b.admits w) h k

  each : (v w : V × W) → NoWorse both v w → NoWorse a v.0 w.0 × NoWorse b v.1 w.1
  each v w h = and_parts (a.no_worse v.0 w.0) (b.no_worse v.1 w.1) h

  all : (v w : V × W) → NoWorse a v.0 w.0 → NoWorse b v.1 w.1 → NoWorse both v w
  all v w h k = and_from (a.no_worse v.0 w.0) (b.no_worse v.1 w.1) h k

  module _ (laws_a : Laws a) (laws_b : Laws b) where
    chained : (u v w : V × W) → Admits both u → Admits both v → Admits both w → (p q : Ordering)
        → a.list_order u.0 v.0 ≡ p → a.list_order v.0 w.0 ≡ q → ordering_then p (b.list_order u.1 v.1) ≡ Less
        → ordering_then q (b.list_order v.1 w.1) ≡ Less → both.list_order u w ≡ Less
    chained u v w x y z Less Less h k m n =
        ap (λ o. ordering_then o (b.list_order u.1 w.1)) (laws_a.order_chains u.0 v.0 w.0 (parts u x).0 (parts v y).0 (parts w z).0 h k)
    chained u v w x y z Less Equal h k m n =
        ap (λ o. ordering_then o (b.list_order u.1 w.1))
        (subst (λ t. a.list_order u.0 t ≡ Less) (laws_a.order_exact v.0 w.0 (parts v y).0 (parts w z).0 k) h)
    chained u v w x y z Less Greater h k m n = not_less n
    chained u v w x y z Equal Less h k m n =
        ap (λ o. ordering_then o (b.list_order u.1 w.1))
        (subst (λ t. a.list_order t w.0 ≡ Less) (sym (laws_a.order_exact u.0 v.0 (parts u x).0 (parts v y).0 h)) k)
    chained u v w x y z Equal Equal h k m n =
        ap (λ o. ordering_then o (b.list_order u.1 w.1))
        (subst (λ t. a.list_order u.0 t ≡ Equal) (laws_a.order_exact v.0 w.0 (parts v y).0 (parts w z).0 k) h)
        ∙ laws_b.order_chains u.1 v.1 w.1 (parts u x).1 (parts v y).1 (parts w z).1 m n
    chained u v w x y z Equal Greater h k m n = not_less n
    chained u v w x y z Greater q h k m n = not_less m

    exact : (v w : V × W) → Admits both v → Admits both w → both.list_order v w ≡ Equal → v ≡ w
    exact v w x y h =
        let ties = tied (a.list_order v.0 w.0) (b.list_order v.1 w.1) h in
        let first : v.0 ≡ w.0 = laws_a.order_exact v.0 w.0 (parts v x).0 (parts w y).0 ties.0 in
        let second : v.1 ≡ w.1 = laws_b.order_exact v.1 w.1 (parts v x).1 (parts w y).1 ties.1 in
        λ i. (first i, second i)

    pub both_laws : Laws both
    both_laws = record {
      arrive_admits = λ time h. pair (a.arrive time) (b.arrive time) (laws_a.arrive_admits time h) (laws_b.arrive_admits time h);
      ride_admits = λ v x. let p = parts v x in
          pair (a.ride v.0) (b.ride v.1) (laws_a.ride_admits v.0 p.0) (laws_b.ride_admits v.1 p.1);
      walk_admits = λ secs v h x. let p = parts v x in
          pair (a.walk secs v.0) (b.walk secs v.1) (laws_a.walk_admits secs v.0 h p.0) (laws_b.walk_admits secs v.1 h p.1);
      reflexive = λ v x. let p = parts v x in all v v (laws_a.reflexive v.0 p.0) (laws_b.reflexive v.1 p.1);
      transitive = λ u v w x y z h k.
          all u w
          (laws_a.transitive u.0 v.0 w.0 (parts u x).0 (parts v y).0 (parts w z).0 (each u v h).0 (each v w k).0)
          (laws_b.transitive u.1 v.1 w.1 (parts u x).1 (parts v y).1 (parts w z).1 (each u v h).1 (each v w k).1);
      antisymmetric = λ v w x y h k.
          let first : v.0 ≡ w.0 = laws_a.antisymmetric v.0 w.0 (parts v x).0 (parts w y).0 (each v w h).0 (each w v k).0 in
          let second : v.1 ≡ w.1 = laws_b.antisymmetric v.1 w.1 (parts v x).1 (parts w y).1 (each v w h).1 (each w v k).1 in
          λ i. (first i, second i);
      arrive_monotone = λ s t h k le.
          all (both.arrive s) (both.arrive t) (laws_a.arrive_monotone s t h k le) (laws_b.arrive_monotone s t h k le);
      ride_monotone = λ v w x y h.
          all (both.ride v) (both.ride w)
          (laws_a.ride_monotone v.0 w.0 (parts v x).0 (parts w y).0 (each v w h).0)
          (laws_b.ride_monotone v.1 w.1 (parts v x).1 (parts w y).1 (each v w h).1);
      walk_monotone = λ c d v w p q x y le h.
          all (both.walk c v) (both.walk d w)
          (laws_a.walk_monotone c d v.0 w.0 p q (parts v x).0 (parts w y).0 le (each v w h).0)
          (laws_b.walk_monotone c d v.1 w.1 p q (parts v x).1 (parts w y).1 le (each v w h).1);
      walk_worsens = λ d v p x.
          all v (both.walk d v) (laws_a.walk_worsens d v.0 p (parts v x).0) (laws_b.walk_worsens d v.1 p (parts v x).1);
      walk_joins = λ d d1 d2 v p q r x le.
          all (both.walk d v) (both.walk d1 (both.walk d2 v))
          (laws_a.walk_joins d d1 d2 v.0 p q r (parts v x).0 le) (laws_b.walk_joins d d1 d2 v.1 p q r (parts v x).1 le);
      order_turns = λ v w x y.
          turned (a.list_order v.0 w.0) (a.list_order w.0 v.0) (b.list_order v.1 w.1) (b.list_order w.1 v.1)
          (laws_a.order_turns v.0 w.0 (parts v x).0 (parts w y).0) (laws_b.order_turns v.1 w.1 (parts v x).1 (parts w y).1);
      order_chains = λ u v w x y z h k.
          chained u v w x y z (a.list_order u.0 v.0) (a.list_order v.0 w.0) refl refl h k;
      order_exact = exact;
    }
