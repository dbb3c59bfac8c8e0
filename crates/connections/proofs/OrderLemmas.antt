-- Connections that are sorted by the number made of departure, arrival and run.
use Rattle.std.proofs.Common.{◌≡◌, ℕ, zero, suc, ◌+◌, ◌*◌, ◌<◌, ◌≤◌, inl, inr, List, length, get_or, false, sym, ap, ◌∙◌, subst, arith, Bor, All}
use Rattle.std.specs.Prelude.{IsPermutation}
use Rattle.std.specs.Fn.{Called, ComputesKey}
use Rattle.std.specs.List.Sorted.{IsSortedByKey}
use Rattle.std.specs.Ordering.{is_lt, nat_cmp}
use Rattle.std.proofs.lemmas.Bool.{cases_eq, cases_lt, false≢true}
use Rattle.std.proofs.lemmas.List.Elements.{Contains-get_or}
use Rattle.std.proofs.lemmas.List.Sorted.{Contains-permutation, IsPermutation-sym, answers_always}
use denote.Param.Members.{Mut}
use Rattle.reasoning.proofs.OrderLemmas.{nat_less}
use Rattle.timetable.specs.declared.network.Connection.{Connection}
use Rattle.connections.specs.Building.{AreSorted, HasDigits, IsNotAfter, order_of}

-- what isn't less is no less
not_less : (m n : ℕ) → is_lt (nat_cmp m n) ≡ false → n ≤ m
not_less m n h = elim (cases_lt m n) [
  | inl less ↦ absurd (false≢true (sym h ∙ ap is_lt (nat_less m n less)))
  | inr more ↦ more
]

-- numbers in order are digits in order
not_after_of : (c d : Connection) → HasDigits c → HasDigits d → order_of c ≤ order_of d → IsNotAfter c d
not_after_of c d x y le =
    let number : (c.dep * 4294967296 + c.arr) * 4294967296 + c.trip ≤ (d.dep * 4294967296 + d.arr) * 4294967296 + d.trip = le in
    let arrives : c.arr < 4294967296 = x.0 in
    let runs : c.trip < 4294967296 = x.1 in
    let other_arrives : d.arr < 4294967296 = y.0 in
    let other_runs : d.trip < 4294967296 = y.1 in
    record {
      by_departure = omega (arith, number, arrives, runs, other_arrives, other_runs);
      by_arrival = λ (e : c.dep ≡ d.dep). omega (arith, number, arrives, runs, other_arrives, other_runs, e);
      by_run = λ (e : c.dep ≡ d.dep) (f : c.arr ≡ d.arr). omega (arith, number, runs, other_runs, e, f);
    }

rising : (xs : List Connection) → ((k : ℕ) (d : Connection) → k + 1 < length xs → order_of (get_or xs k d) ≤ order_of (get_or xs (k + 1) d))
    → (i j : ℕ) (d : Connection) → i < j → j < length xs → order_of (get_or xs i d) ≤ order_of (get_or xs j d)
rising xs up i zero d lt within = absurd (omega (arith, lt))
rising xs up i (suc j) d lt within =
    let next : j + 1 ≡ suc j = omega arith in
    let last : order_of (get_or xs j d) ≤ order_of (get_or xs (suc j) d) =
    subst (λ (n : ℕ). order_of (get_or xs j d) ≤ order_of (get_or xs n d)) next (up j d (omega (arith, within))) in
    elim (cases_eq i j) [
      | inl same ↦ subst (λ (n : ℕ). order_of (get_or xs n d) ≤ order_of (get_or xs (suc j) d)) (sym same) last
      | inr other ↦
          let before : order_of (get_or xs i d) ≤ order_of (get_or xs j d) = rising xs up i j d (omega (arith, lt, other)) (omega (arith, within)) in
          omega (arith, before, last)
    ]

pub sorted_by : {F : Type 0} {g : Mut F (Bor Connection × Unit {0}) ℕ} {f : F} (cs xs : List Connection) → All HasDigits cs → IsPermutation cs xs
    → ((key : Connection → ℕ) → ComputesKey g key f → IsSortedByKey key nat_cmp xs)
    → ((f : F) (a : Bor Connection × Unit {0}) (r : ℕ) (f' : F) → Called g f a r f' → r ≡ order_of a.0.now) → AreSorted xs
sorted_by {g = g} {f = f} cs xs digits moved up calls i j d lt within =
    let sorted = up order_of (answers_always g (λ a r. r ≡ order_of a.0.now) f calls) in
    let numbers = rising xs
    (λ k e less. not_less (order_of (get_or xs (k + 1) e)) (order_of (get_or xs k e)) (sorted k e (omega arith) less)) i j d lt within in
    let of : (k : ℕ) → k < length xs → HasDigits (get_or xs k d) =
    λ k less. let at = Contains-permutation xs cs (get_or xs k d) (IsPermutation-sym cs xs moved) (Contains-get_or xs k d less) in
    subst HasDigits at.2 (digits at.0 (get_or xs k d) at.1) in
    not_after_of (get_or xs i d) (get_or xs j d) (of i (omega (arith, lt, within))) (of j within) numbers
