-- Reading walks and rides one after the other, as loops do.
use Rattle.std.proofs.Common.{◌≡◌, ◌≢◌, ℕ, suc, ◌-◌, ◌+◌, ◌≤◌, ◌<◌, eqb, List, [], ◌∷◌, ◌++◌, length, codes, Option, Some}
use Rattle.std.proofs.Common.{None, refl, sym, ap, ◌∙◌, append_assoc, arith}
use Rattle.std.specs.Prelude.{MatchOption}
use Rattle.std.specs.Option.{option_map}
use Rattle.std.proofs.lemmas.List.{append-nil}
use Rattle.std.proofs.lemmas.Bool.{eq-eqb, eqb-true, ne_eqb, cond-true}
use Rattle.std.proofs.Common.{Bor}
use Rattle.reasoning.proofs.OptionLemmas.{some_where}
use Rattle.timetable.specs.declared.network.Footpath.{Footpath}
use Rattle.timetable.specs.JourneyValue.{RideValue}
use Rattle.journeys.specs.declared.text_fault.TextFault.{TextFault}
use Rattle.journeys.specs.declared.text_fault.TextFault.TheVariants as faults
use Rattle.journeys.specs.Reading.{◌>>=◌, Fails, footpath_at, after, walks_at, ride_at_front, rides_at}

-- what comes after a word
pub after-again : (word rest : List ℕ) → after word (word ++ rest) ≡ Some rest
unfolding after
after-again [] rest = refl
after-again (w ∷ word) rest = cond-true (eqb w w) _ _ (eq-eqb w w refl) ∙ after-again word rest

pub after-split : (word bytes rest : List ℕ) → after word bytes ≡ Some rest → bytes ≡ word ++ rest
unfolding after
after-split [] bytes rest e = cc
after-split (w ∷ word) [] rest e = absurd cc
after-split (w ∷ word) (b ∷ bytes) rest e =
    let parts = some_where (eqb w b) (after word bytes) rest e in
    let first : w ≡ b = eqb-true w b parts.0 in
    let others = after-split word bytes rest parts.1 in
    λ i. sym first i ∷ others i

after-none : (word bytes : List ℕ) → ((rest : List ℕ) → bytes ≢ word ++ rest) → (o : Option (List ℕ)) → after word bytes ≡ o → None ≡ after word bytes
after-none word bytes never None e = sym e
after-none word bytes never (Some rest) e = absurd (never rest (after-split word bytes rest e))

pub after_is : (word bytes : List ℕ) (r : Option (Bor (List ℕ))) → MatchOption r ((rest : List ℕ) → bytes ≢ word ++ rest) (λ x. bytes ≡ word ++ x.now)
    → option_map (λ x. x.now) r ≡ after word bytes
after_is word bytes None never = after-none word bytes never (after word bytes) refl
after_is word bytes (Some x) is = sym (ap (after word) is ∙ after-again word x.now)

-- what was read before, and what is still read
abbrev pub with_walks : List Footpath → Option (List Footpath × List ℕ) → Option (List Footpath × List ℕ)
with_walks front read = read >>= λ x. Some (front ++ x.0, x.1)

abbrev pub with_rides : List RideValue → Option (List RideValue) → Option (List RideValue)
with_rides front read = read >>= λ rides. Some (front ++ rides)

regroup_walks : (front : List Footpath) (f : Footpath) (read : Option (List Footpath × List ℕ))
    → with_walks front (read >>= λ x. Some (f ∷ x.0, x.1)) ≡ with_walks (front ++ f ∷ []) read
regroup_walks front f (Some x) = ap (λ (fs : List Footpath). Some (fs, x.1)) (simp append_assoc)
regroup_walks front f None = refl

regroup_rides : (front : List RideValue) (r : RideValue) (read : Option (List RideValue))
    → with_rides front (read >>= λ x. Some (r ∷ x)) ≡ with_rides (front ++ r ∷ []) read
regroup_rides front r (Some x) = ap (λ (rs : List RideValue). Some rs) (simp append_assoc)
regroup_rides front r None = refl

module _ (front : List Footpath) (count i : ℕ) (bytes : List ℕ) (total : Option (List Footpath × List ℕ))
    (so_far : with_walks front (walks_at (count - i) bytes) ≡ total) where
  pub walks_go_on : (rest behind : List ℕ) (f : Footpath) → i < count → after (codes " walk") bytes ≡ Some rest → footpath_at rest ≡ Some (f, behind)
      → with_walks (front ++ f ∷ []) (walks_at (count - (i + 1)) behind) ≡ total
  unfolding walks_at
  walks_go_on rest behind f lt word read =
      let k : count - i ≡ suc (count - (i + 1)) = omega arith in
      sym (regroup_walks front f (walks_at (count - (i + 1)) behind)) ∙ (rw (k, word, read) at so_far)

  pub walks_fail : (rest : List ℕ) (e : TextFault) → i < count → after (codes " walk") bytes ≡ Some rest → Fails e (footpath_at rest) → Fails e total
  unfolding walks_at
  walks_fail rest faults.OutOfMemory lt word fails = tt
  walks_fail rest faults.BadText lt word fails =
      let k : count - i ≡ suc (count - (i + 1)) = omega arith in
      sym (rw (k, word, fails) at so_far)

  pub walks_stop : i < count → after (codes " walk") bytes ≡ None → total ≡ Some (front, bytes)
  unfolding walks_at
  walks_stop lt word =
      let k : count - i ≡ suc (count - (i + 1)) = omega arith in
      sym (rw (k, word) at so_far) ∙ ap (λ (fs : List Footpath). Some (fs, bytes)) (append-nil front)

  pub walks_done : count ≤ i → total ≡ Some (front, bytes)
  unfolding walks_at
  walks_done le =
      let k : count - i ≡ 0 = omega arith in
      sym (rw k at so_far) ∙ ap (λ (fs : List Footpath). Some (fs, bytes)) (append-nil front)

module _ (front : List RideValue) (count i : ℕ) (bytes : List ℕ) (total : Option (List RideValue))
    (so_far : with_rides front (rides_at (count - i) bytes) ≡ total) where
  pub rides_go_on : (behind rest : List ℕ) (r : RideValue) → i < count → ride_at_front bytes ≡ Some (r, behind) → length behind ≢ 0
      → after (codes " ride") behind ≡ Some rest → with_rides (front ++ r ∷ []) (rides_at (count - (i + 1)) rest) ≡ total
  unfolding rides_at
  rides_go_on behind rest r lt read more word =
      let k : count - i ≡ suc (count - (i + 1)) = omega arith in
      let test = ne_eqb _ _ more in
      sym (regroup_rides front r (rides_at (count - (i + 1)) rest)) ∙ (rw (k, read, test, word) at so_far)

  pub rides_fail : (e : TextFault) → i < count → Fails e (ride_at_front bytes) → Fails e total
  unfolding rides_at
  rides_fail faults.OutOfMemory lt fails = tt
  rides_fail faults.BadText lt fails =
      let k : count - i ≡ suc (count - (i + 1)) = omega arith in
      sym (rw (k, fails) at so_far)

  pub rides_end : (behind : List ℕ) (r : RideValue) → i < count → ride_at_front bytes ≡ Some (r, behind) → length behind ≡ 0 → total ≡ Some (front ++ r ∷ [])
  unfolding rides_at
  rides_end behind r lt read end =
      let k : count - i ≡ suc (count - (i + 1)) = omega arith in
      let test = eq-eqb _ _ end in
      sym (rw (k, read, test) at so_far)

  pub rides_bad : (behind : List ℕ) (r : RideValue) → i < count → ride_at_front bytes ≡ Some (r, behind) → length behind ≢ 0
      → after (codes " ride") behind ≡ None → total ≡ None
  unfolding rides_at
  rides_bad behind r lt read more word =
      let k : count - i ≡ suc (count - (i + 1)) = omega arith in
      let test = ne_eqb _ _ more in
      sym (rw (k, read, test, word) at so_far)

  pub rides_done : count ≤ i → total ≡ None
  unfolding rides_at
  rides_done le =
      let k : count - i ≡ 0 = omega arith in
      sym (rw k at so_far)
