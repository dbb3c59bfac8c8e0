-- The footpaths of the first claims are those that the feed lists.
use Rattle.std.proofs.Common.{◌≡◌, ◌↔◌, ℕ, zero, suc, ◌-◌, ◌≤◌, inl, inr, List, [], length, Option, Some, Contains, refl, sym, ap, subst, ◌∙◌, arith}
use Rattle.std.proofs.Common.{get_or}
use Rattle.std.proofs.lemmas.Option.{same_Some, slice_get-get_or, slice_get_within}
use Rattle.std.proofs.lemmas.Bool.{cases_eq, cases_order}
use Rattle.timetable.specs.declared.network.Footpath.{Footpath}
use Rattle.timetable.specs.Legal.{At, HasFootpath, AreInOrder}
use Rattle.std.specs.List.Sorted.{IsPermutation}
use Rattle.std.proofs.lemmas.List.Sorted.{Contains-permutation, IsPermutation-sym}
use Rattle.reasoning.proofs.ListLemmas.{not_in_nil, contains_at, at_contains, same_at}
use Rattle.gtfs_tables.specs.declared.tables.Feed.{Feed}
use Rattle.transfers.specs.declared.claims.Verdict.{Verdict}
use Rattle.transfers.specs.declared.claims.Verdict.TheVariants.{Takes}
use Rattle.transfers.specs.declared.claims.Claim.{Claim}
use Rattle.transfers.specs.Listed.{AreListed, station_of, verdict_between, secs_of, listed_secs}
use Rattle.transfers.specs.Claims.{Adds, AreSorted, ComesBefore, IsClaimInto, IsFirstAt, ArePathsBelow, CountsBefore, source_number}
use Rattle.transfers.proofs.PathLemmas.{first_strict, footpath_of}
use Rattle.transfers.proofs.RangeLemmas.{secs_given}
use Rattle.transfers.proofs.VerdictLemmas.{CountsFirst, verdict_of_first, counts_refl}
use Rattle.transfers.proofs.VoidLemmas.{unbanned_between}
use Rattle.transfers.proofs.UnbannedLemmas.{decide_banned}
use Rattle.transfers.specs.Bans.{Unbanned, IsBannedClaim, IsVoid, IsBanned}
use Rattle.transfers.specs.declared.claims.Source.{Source}
use Rattle.transfers.specs.declared.claims.Source.TheVariants.{Stops, Station, Default}

-- behind a claim on another pair a claim is the first on its own
first_behind : (claims : List Claim) (j : ℕ) (b d : Claim) → At claims j b → At claims (suc j) d → ((b.to ≡ d.to) × (b.from ≡ d.from) → ⊥)
    → IsFirstAt claims (suc j)
first_behind claims j b d at_b at_d differ b' d' at_b' at_d' below same =
    let back : suc j - 1 ≡ j = omega arith in
    let is_b : b' ≡ b = same_at claims j b' b (subst (λ (n : ℕ). At claims n b') back at_b') at_b in
    let is_d : d' ≡ d = same_at claims (suc j) d' d at_d' at_d in
    differ (
      sym (ap (λ (x : Claim). x.to) is_b) ∙ same.0 ∙ ap (λ (x : Claim). x.to) is_d,
      sym (ap (λ (x : Claim). x.from) is_b) ∙ same.1
          ∙ ap (λ (x : Claim). x.from) is_d,
    )

-- some claim is the first on its pair
first_index : (claims : List Claim) (j : ℕ) (d : Claim) → At claims j d
    → (k : ℕ) × (c : Claim) × At claims k c × IsFirstAt claims k × (c.to ≡ d.to) × (c.from ≡ d.from)
first_index claims zero d at = (zero, d, at, (λ b c at_b at_c below. absurd (omega (arith, below))), refl, refl)
first_index claims (suc j) d at =
    let b : Claim = get_or claims j d in
    let at_b : At claims j b = slice_get-get_or claims j d (omega (arith, slice_get_within claims (suc j) d at)) in
    elim (cases_eq b.to d.to) [
      | inl to ↦ elim (cases_eq b.from d.from) [
        | inl from ↦ let (k, c, at_c, first, c_to, c_from) = first_index claims j b at_b in (k, c, at_c, first, c_to ∙ to, c_from ∙ from)
        | inr differ ↦ (suc j, d, at, first_behind claims j b d at_b at (λ same. differ same.1), refl, refl)
      ]
      | inr differ ↦ (suc j, d, at, first_behind claims j b d at_b at (λ same. differ same.0), refl, refl)
    ]

-- two sources of other numbers differ
stops_differ : (s : Source) (n : ℕ) → source_number s ≡ suc n → Stops ≡ s → ⊥
stops_differ s n is same = let h : 0 ≡ source_number s = ap (λ (x : Source). source_number x) same in omega (arith, h, is)

module _ (feed : Feed) (into : ℕ) (claims : List Claim) (paths : List Footpath) (sorted : AreSorted claims) (all : (c : Claim)
    → Contains claims c ↔ Unbanned feed.stops.items feed.transfers.items (IsClaimInto feed.stops.items feed.transfers.items into) c)
    (they_are : ArePathsBelow claims (length claims) paths) where
  claim_at : (k : ℕ) (c : Claim) → At claims k c → IsClaimInto feed.stops.items feed.transfers.items into c
  claim_at k c at = ((all c).0 (contains_at claims k c at)).0

  unbanned_at : (k : ℕ) (c : Claim) → At claims k c → ¬ IsBannedClaim feed.stops.items feed.transfers.items c
  unbanned_at k c at = ((all c).0 (contains_at claims k c at)).1

  abbrev IsBefore : Claim → Claim → Type 0
  IsBefore c d = (source_number c.source ≤ source_number d.source) × (c.source ≡ d.source → CountsBefore c.verdict d.verdict)

  -- a claim that is made comes before one of the same pair that is left out
  before_banned : (c d : Claim) → ¬ IsBannedClaim feed.stops.items feed.transfers.items c → IsBannedClaim feed.stops.items feed.transfers.items d
      → d.to ≡ c.to → d.from ≡ c.from → IsBefore c d
  before_banned c d unbanned banned to from = by_source c.source d.source refl refl
    where
      void : IsVoid feed.transfers.items (station_of feed.stops.items d.from) (station_of feed.stops.items d.to)
          → IsVoid feed.transfers.items (station_of feed.stops.items c.from) (station_of feed.stops.items c.to)
      void v = subst (λ (n : ℕ). IsVoid feed.transfers.items (station_of feed.stops.items n) (station_of feed.stops.items c.to)) from
          (subst (λ (n : ℕ). IsVoid feed.transfers.items (station_of feed.stops.items d.from) (station_of feed.stops.items n)) to v)

      its : (t : Source) → IsBanned t (IsVoid feed.transfers.items (station_of feed.stops.items d.from) (station_of feed.stops.items d.to))
          → IsVoid feed.transfers.items (station_of feed.stops.items d.from) (station_of feed.stops.items d.to)
      its Stops m = absurd m
      its Station m = m
      its Default m = m

      never_both : (s : Source) → c.source ≡ s
          → ¬ IsBanned s (IsVoid feed.transfers.items (station_of feed.stops.items c.from) (station_of feed.stops.items c.to))
      never_both s e m = unbanned (record {
        apart = λ same. banned.apart (from ∙ same ∙ sym to);
        void = subst (λ (x : Source). IsBanned x (IsVoid feed.transfers.items (station_of feed.stops.items c.from) (station_of feed.stops.items c.to)))
            (sym e) m;
      })

      by_source : (s t : Source) → c.source ≡ s → d.source ≡ t → IsBefore c d
      by_source Station t e f = absurd (never_both Station e (void (its d.source banned.void)))
      by_source Default t e f = absurd (never_both Default e (void (its d.source banned.void)))
      by_source Stops Stops e f = absurd (subst (λ (x : Source). IsBanned x (IsVoid feed.transfers.items (station_of feed.stops.items d.from)
          (station_of feed.stops.items d.to))) f banned.void)
      by_source Stops Station e f = (
        subst (λ (x : Source). source_number x ≤ source_number d.source) (sym e) (omega arith),
        λ same. absurd (stops_differ Station 0 refl (sym e ∙ same ∙ f)),
      )
      by_source Stops Default e f = (
        subst (λ (x : Source). source_number x ≤ source_number d.source) (sym e) (omega arith),
        λ same. absurd (stops_differ Default 1 refl (sym e ∙ same ∙ f)),
      )

  -- the first claim on a pair counts before all others
  counts_first : (k : ℕ) (c : Claim) → At claims k c → IsFirstAt claims k → CountsFirst feed c
  counts_first k c at first d claim to from = elim (decide_banned feed.stops.items feed.transfers.items d) [
    | inl banned ↦ before_banned c d (unbanned_at k c at) banned to from
    | inr unbanned ↦
        let (j, at_d) = at_contains claims d ((all d).1 ((claim, to ∙ (claim_at k c at).1), unbanned)) in
        elim (cases_order k j) [
          | inl same ↦
              let is_d : c ≡ d = same_at claims j c d (subst (λ (n : ℕ). At claims n c) same at) at_d in
              let P : Claim → Type 0 = λ x. (source_number c.source ≤ source_number x.source) × (c.source ≡ x.source → CountsBefore c.verdict x.verdict) in
              let own : P c = (omega arith, λ e. counts_refl c.verdict) in
              subst P is_d own
          | inr (inl below) ↦ let h : ComesBefore c d = sorted k j c d below at at_d in (h.by_source (sym to) (sym from), h.by_verdict (sym to) (sym from))
          | inr (inr above) ↦ absurd (first_strict claims sorted j k d c above at_d at first to from)
        ]
  ]

  verdict_at : (k : ℕ) (c : Claim) → At claims k c → IsFirstAt claims k → verdict_between feed c.from c.to ≡ Some c.verdict
  verdict_at k c at first = verdict_of_first feed c (claim_at k c at).0 (counts_first k c at first)

  there : (from to secs : ℕ) → HasFootpath paths from to secs → (to ≡ into) × (listed_secs feed from to ≡ Some secs)
  there from to secs (i, at) =
      let (k, below, path) = they_are.has (footpath_of from to secs) (contains_at paths i (footpath_of from to secs) at) in
      let is : verdict_between feed path.claim.from path.claim.to ≡ Some path.claim.verdict = verdict_at k path.claim path.at path.first in (
        sym path.to_is ∙ (claim_at k path.claim path.at).1,
        ap (λ (n : ℕ). listed_secs feed n to) (sym path.from_is) ∙ ap (λ (n : ℕ). listed_secs feed path.claim.from n) (sym path.to_is)
            ∙ ap (λ (o : Option Verdict). secs_of o) is
            ∙ ap (λ (w : Verdict). let o : Option Verdict = Some w in secs_of o) path.verdict_is,
      )

  back : (from to secs : ℕ) → to ≡ into → listed_secs feed from to ≡ Some secs → HasFootpath paths from to secs
  back from to secs meant e =
      let says : verdict_between feed from to ≡ Some (Takes secs) = secs_given (verdict_between feed from to) secs e in
      let (d, claim, unbanned, d_to, d_from) = unbanned_between feed from to secs says in
      let (j, at_d) = at_contains claims d ((all d).1 ((claim, d_to ∙ meant), unbanned)) in
      let (k, c, at_c, first, c_to, c_from) = first_index claims j d at_d in
      let to_is : c.to ≡ to = c_to ∙ d_to in
      let from_is : c.from ≡ from = c_from ∙ d_from in
      let is : verdict_between feed c.from c.to ≡ Some c.verdict = verdict_at k c at_c first in
      let same : verdict_between feed c.from c.to ≡ Some (Takes secs) = ap (λ (n : ℕ). verdict_between feed n c.to) from_is
      ∙ ap (λ (n : ℕ). verdict_between feed from n) to_is ∙ says in
      let verdict_is : c.verdict ≡ Takes secs = same_Some c.verdict (Takes secs) (sym is ∙ same) in
      at_contains paths (footpath_of from to secs) (they_are.each k (footpath_of from to secs) (slice_get_within claims k c at_c)
      (record { claim = c; at = at_c; first = first; from_is = from_is; to_is = to_is; verdict_is = verdict_is }))

  -- the footpaths of the first claims are those that are listed into the stop
  pub ways_listed : AreInOrder paths → AreListed feed (λ from to. to ≡ into) paths
  ways_listed in_order = record { in_order = in_order; has = there; each = back }

-- claims that are sorted are those that there were, and those are what was added to none
pub moved_claims : (none before claims : List Claim) (made : Claim → Type 0) → none ≡ [] → Adds none before made → IsPermutation before claims
    → (c : Claim) → Contains claims c ↔ made c
moved_claims none before claims made empty h moved c = (
  λ is_in. elim (h.only c (Contains-permutation claims before c (IsPermutation-sym before claims moved) is_in)) [
    | inl was ↦ absurd (not_in_nil c (subst (λ (xs : List Claim). Contains xs c) empty was))
    | inr is ↦ is
  ],
  λ is. Contains-permutation before claims c moved (h.added c is),
)
