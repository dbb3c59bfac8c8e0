-- The order of claims.
use Rattle.std.proofs.Common.{◌≡◌, ℕ, ◌≤◌, inl, inr, List, false, get_or, refl, sym, ap, ◌∙◌, arith}
use Rattle.std.specs.declared.cmp.Ordering.{Ordering}
use Rattle.std.specs.declared.cmp.Ordering.TheVariants.{Less, Equal, Greater}
use Rattle.std.specs.Ordering.{is_lt, nat_cmp, ordering_then}
use Rattle.std.specs.List.Sorted.{IsSorted}
use Rattle.std.proofs.lemmas.Bool.{cases_lt, false≢true}
use Rattle.std.proofs.lemmas.Option.{slice_get_within, get_or_from_slice_get}
use Rattle.std.proofs.lemmas.List.Sorted.{sorted_far, ranks_by}
use Rattle.reasoning.proofs.OrderLemmas.{nat_less, nat_equal}
use Rattle.transfers.specs.declared.claims.Source.{Source}
use Rattle.transfers.specs.declared.claims.Source.TheVariants.{Stops, Station, Default}
use Rattle.transfers.specs.declared.claims.Verdict.{Verdict}
use Rattle.transfers.specs.declared.claims.Verdict.TheVariants.{Never, Takes}
use Rattle.transfers.specs.declared.claims.Claim.{Claim}
use Rattle.transfers.specs.Claims.{source_number, CountsBefore, ComesBefore, AreSorted}
use Rattle.transfers.specs.contracts.claims.ClaimOrd.TheImpl.{cmp-value}
use Rattle.transfers.specs.contracts.claims.ClaimOrd.TheImpl.Laws.{total-law}
use Rattle.transfers.specs.contracts.claims.SourceOrd.TheImpl.{cmp-value as source_cmp}
use Rattle.transfers.specs.contracts.claims.VerdictOrd.TheImpl.{cmp-value as verdict_order}
use Rattle.transfers.proofs.ClaimLemmas.{claim_of}

abbrev pub verdict_cmp : Verdict → Verdict → Ordering
verdict_cmp Never Never = Equal
verdict_cmp Never (Takes n) = Less
verdict_cmp (Takes m) Never = Greater
verdict_cmp (Takes m) (Takes n) = nat_cmp m n

-- how sources compare, and verdicts
sources_compare : (s s' : Source) → source_cmp.it s s' ≡ nat_cmp (source_number s) (source_number s')
sources_compare Stops Stops = refl
sources_compare Stops Station = refl
sources_compare Stops Default = refl
sources_compare Station Stops = refl
sources_compare Station Station = refl
sources_compare Station Default = refl
sources_compare Default Stops = refl
sources_compare Default Station = refl
sources_compare Default Default = refl

verdicts_compare : (w w' : Verdict) → verdict_order.it w w' ≡ verdict_cmp w w'
verdicts_compare Never Never = refl
verdicts_compare Never (Takes n) = refl
verdicts_compare (Takes m) Never = refl
verdicts_compare (Takes m) (Takes n) = refl

-- how claims compare
cmp_is : (to from to' from' : ℕ) (s s' : Source) (w w' : Verdict)
    → cmp-value.it (claim_of to from s w) (claim_of to' from' s' w')
    ≡ ordering_then (nat_cmp to to') (ordering_then (nat_cmp from from') (ordering_then (nat_cmp (source_number s) (source_number s')) (verdict_cmp w w')))
cmp_is to from to' from' s s' w w' =
    ap (λ (o : Ordering). ordering_then (nat_cmp to to') (ordering_then (nat_cmp from from') (ordering_then o (verdict_order.it w w')))) (sources_compare s s')
    ∙ ap (λ (o : Ordering). ordering_then (nat_cmp to to')
    (ordering_then (nat_cmp from from') (ordering_then (nat_cmp (source_number s) (source_number s')) o))) (verdicts_compare w w')

-- what isn't less isn't so in its first part
first_part : (m n : ℕ) (o : Ordering) → is_lt (ordering_then (nat_cmp m n) o) ≡ false → n ≤ m
first_part m n o h = elim (cases_lt m n) [
  | inl less ↦
      let e : nat_cmp m n ≡ Less = nat_less m n less in
      absurd (false≢true (sym h ∙ ap (λ (x : Ordering). is_lt (ordering_then x o)) e))
  | inr more ↦ more
]

-- and where that is the same, not in the others
next_part : (m n : ℕ) (o : Ordering) → m ≡ n → is_lt (ordering_then (nat_cmp m n) o) ≡ false → is_lt o ≡ false
next_part m n o same h = sym (ap (λ (x : Ordering). is_lt (ordering_then x o)) (nat_equal m n same)) ∙ h

verdict_part : (w v : Verdict) → is_lt (verdict_cmp v w) ≡ false → CountsBefore w v
verdict_part Never v h = tt
verdict_part (Takes m) Never h = absurd (false≢true (sym h))
verdict_part (Takes m) (Takes n) h = first_part n m Equal (end_then n m h)
  where
    then_equal : (o : Ordering) → ordering_then o Equal ≡ o
    then_equal Less = refl
    then_equal Equal = refl
    then_equal Greater = refl

    end_then : (n m : ℕ) → is_lt (nat_cmp n m) ≡ false → is_lt (ordering_then (nat_cmp n m) Equal) ≡ false
    end_then n m h = ap (λ (x : Ordering). is_lt x) (then_equal (nat_cmp n m)) ∙ h

-- a claim that isn't less than another comes behind it
before_of : (c d : Claim) → is_lt (cmp-value.it d c) ≡ false → ComesBefore c d
before_of c d h0 =
    let rest2 : Ordering = ordering_then (nat_cmp (source_number d.source) (source_number c.source)) (verdict_cmp d.verdict c.verdict) in
    let rest : Ordering = ordering_then (nat_cmp d.from c.from) rest2 in
    let h : is_lt (ordering_then (nat_cmp d.to c.to) rest) ≡ false =
    sym (ap (λ (x : Ordering). is_lt x) (cmp_is d.to d.from c.to c.from d.source c.source d.verdict c.verdict)) ∙ h0 in
    record {
      by_to = first_part d.to c.to rest h;
      by_from = λ to. first_part d.from c.from rest2 (next_part d.to c.to rest (sym to) h);
      by_source = λ to from. first_part (source_number d.source) (source_number c.source) (verdict_cmp d.verdict c.verdict)
          (next_part d.from c.from rest2 (sym from) (next_part d.to c.to rest (sym to) h));
      by_verdict = λ to from source. verdict_part c.verdict d.verdict
          (next_part (source_number d.source) (source_number c.source) (verdict_cmp d.verdict c.verdict)
          (ap (λ (s : Source). source_number s) (sym source))
          (next_part d.from c.from rest2 (sym from) (next_part d.to c.to rest (sym to) h)));
    }

-- claims that were sorted are in order
pub sorted_claims : (claims : List Claim) → IsSorted cmp-value.it claims → AreSorted claims
sorted_claims claims up i j c d below at_c at_d =
    let far = sorted_far (λ (x : Claim) (y : Claim). is_lt (cmp-value.it x y)) (ranks_by total-law (λ (x : Claim). x)) claims up i j c (omega (arith, below))
    (slice_get_within claims j d at_d) in
    let c_is : get_or claims i c ≡ c = get_or_from_slice_get claims i c c at_c in
    let d_is : get_or claims j c ≡ d = get_or_from_slice_get claims j d c at_d in
    before_of c d (ap (λ (x : Claim). is_lt (cmp-value.it d x)) (sym c_is) ∙ ap (λ (x : Claim). is_lt (cmp-value.it x (get_or claims i c))) (sym d_is) ∙ far)
