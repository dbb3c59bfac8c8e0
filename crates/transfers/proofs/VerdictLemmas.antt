-- The verdict that counts for a pair of stops, and the first claim about it.
use Rattle.std.proofs.Common.{◌≡◌, ◌==◌, ◌&&◌, ℕ, suc, ◌≤◌, ◌⊎◌, inl, inr, nat_lt, List, [], ◌∷◌, length, if◌then◌else◌, Bool, true, false, Option, Some}
use Rattle.std.proofs.Common.{None, Contains, refl, sym, ap, subst, ◌∙◌, arith}
use Rattle.std.proofs.lemmas.Option.{same_Some, none-some}
use Rattle.std.proofs.lemmas.Bool.{false≢true, cases_lt, and_parts, ne_eqb, eq-eqb, lt-ltb, ltb-true, eqb-true, eqb-false, and_from}
use Rattle.reasoning.proofs.ListLemmas.{not_in_nil, contains_first, contains_rest, contains_cases}
use Rattle.timetable.specs.First.{or_else}
use Rattle.transfers.specs.declared.claims.Source.{Source}
use Rattle.transfers.specs.declared.claims.Source.TheVariants.{Stops, Station, Default}
use Rattle.transfers.specs.declared.claims.Verdict.{Verdict}
use Rattle.transfers.specs.declared.claims.Verdict.TheVariants.{Never, Takes}
use Rattle.transfers.specs.declared.claims.Claim.{Claim}
use Rattle.gtfs_tables.specs.declared.tables.Stop.{Stop}
use Rattle.gtfs_tables.specs.declared.tables.Transfer.{Transfer}
use Rattle.gtfs_tables.specs.declared.tables.Feed.{Feed}
use Rattle.gtfs_tables.specs.declared.tables.TransferEnd.{TransferEnd}
use Rattle.gtfs_tables.specs.declared.tables.TransferEnd.TheVariants.{Stop as TheStop, Station as TheStation}
use Rattle.transfers.specs.Listed.{verdict_for, least_verdict, least_of_both, claimed_by, is_source, source_of, source_by}
use Rattle.transfers.specs.Listed.{stands_for, verdict_of, default_verdict, is_of, station_of}
use Rattle.transfers.specs.Listed.{verdict_between}
use Rattle.transfers.specs.Claims.{CountsBefore, IsRowClaim, IsClaim, source_number}
use Rattle.transfers.proofs.ClaimLemmas.{claim_of}

-- verdicts count in one order
pub counts_both : (a b : Verdict) → CountsBefore a b → CountsBefore b a → a ≡ b
counts_both Never Never h k = refl
counts_both Never (Takes n) h k = absurd k
counts_both (Takes m) Never h k = absurd h
counts_both (Takes m) (Takes n) h k = ap (λ (x : ℕ). Takes x) (omega (arith, h, k))

pub counts_refl : (a : Verdict) → CountsBefore a a
counts_refl Never = tt
counts_refl (Takes m) = omega arith

pub counts_trans : (a b c : Verdict) → CountsBefore a b → CountsBefore b c → CountsBefore a c
counts_trans Never b c h k = tt
counts_trans (Takes m) Never c h k = absurd h
counts_trans (Takes m) (Takes n) Never h k = absurd k
counts_trans (Takes m) (Takes n) (Takes o) h k = omega (arith, h, k)

least_left : (a b : Verdict) → CountsBefore (least_verdict a b) a
least_left Never b = tt
least_left (Takes m) Never = tt
least_left (Takes m) (Takes n) = omega arith

least_right : (a b : Verdict) → CountsBefore (least_verdict a b) b
least_right Never b = tt
least_right (Takes m) Never = tt
least_right (Takes m) (Takes n) = omega arith

least_one : (a b : Verdict) → (least_verdict a b ≡ a) ⊎ (least_verdict a b ≡ b)
least_one Never b = inl refl
least_one (Takes m) Never = inr refl
least_one (Takes m) (Takes n) = elim (cases_lt m n) [
  | inl below ↦ inl (ap (λ (x : ℕ). Takes x) (omega (arith, below)))
  | inr above ↦ inr (ap (λ (x : ℕ). Takes x) (omega (arith, above)))
]

-- a row says it
abbrev pub IsClaimed : List Stop → Source → ℕ → ℕ → List Transfer → Verdict → Type 0
IsClaimed stops source from to rows w = (row : Transfer) × Contains rows row × (verdict_for stops source from to row ≡ Some w)

-- what is said is the first that counts of what rows say
pub record IsFirstClaimed (stops : List Stop) (source : Source) (from to : ℕ) (rows : List Transfer) (result : Option Verdict) : Type 0 where
  pub nothing : result ≡ None → (w : Verdict) → ¬ IsClaimed stops source from to rows w
  pub something : (w : Verdict) → result ≡ Some w → IsClaimed stops source from to rows w
  pub first : (w v : Verdict) → result ≡ Some w → IsClaimed stops source from to rows v → CountsBefore w v

module _ (stops : List Stop) (source : Source) (from to : ℕ) where
  rest_or_first : (row : Transfer) (rows : List Transfer) (w : Verdict) → IsClaimed stops source from to (row ∷ rows) w
      → (verdict_for stops source from to row ≡ Some w) ⊎ IsClaimed stops source from to rows w
  rest_or_first row rows w (x, is_in, is) = elim (contains_cases x row rows is_in) [
    | inl same ↦ inl (ap (λ (y : Transfer). verdict_for stops source from to y) same ∙ is)
    | inr rest ↦ inr (x, rest, is)
  ]

  step : (row : Transfer) (rows : List Transfer) (o : Option Verdict) → verdict_for stops source from to row ≡ o → (r : Option Verdict)
      → IsFirstClaimed stops source from to rows r
      → IsFirstClaimed stops source from to (row ∷ rows) (least_of_both o r)
  step row rows None e r h = record {
    nothing = λ none w claimed. elim (rest_or_first row rows w claimed) [ inl here ↦ none-some w (sym e ∙ here) | inr rest ↦ h.nothing none w rest ];
    something = λ w is. let (x, is_in, says) = h.something w is in (x, contains_rest x row rows is_in, says);
    first = λ w v is claimed. elim (rest_or_first row rows v claimed) [ inl here ↦ absurd (none-some v (sym e ∙ here)) | inr rest ↦ h.first w v is rest ];
  }
  step row rows (Some u) e None h = record {
    nothing = λ none w claimed. none-some u (sym none);
    something = λ w is. (row, contains_first row rows, e ∙ is);
    first = λ w v is claimed. elim (rest_or_first row rows v claimed) [
      | inl here ↦ let same : w ≡ v = same_Some w v (sym is ∙ sym e ∙ here) in subst (λ (x : Verdict). CountsBefore w x) same (counts_refl w)
      | inr rest ↦ absurd (h.nothing refl v rest)
    ];
  }
  step row rows (Some u) e (Some t) h = record {
    nothing = λ none w claimed. none-some (least_verdict u t) (sym none);
    something = λ w is.
        let is_w : least_verdict u t ≡ w = same_Some (least_verdict u t) w is in
        elim (least_one u t) [
          | inl left ↦ (row, contains_first row rows, e ∙ ap (λ (x : Verdict). Some x) (sym left ∙ is_w))
          | inr right ↦ let (x, is_in, says) = h.something t refl in (x, contains_rest x row rows is_in, says ∙ ap (λ (x : Verdict). Some x) (sym right ∙ is_w))
        ];
    first = λ w v is claimed.
        let is_w : least_verdict u t ≡ w = same_Some (least_verdict u t) w is in
        subst (λ (x : Verdict). CountsBefore x v) is_w (elim (rest_or_first row rows v claimed) [
          | inl here ↦ subst (λ (x : Verdict). CountsBefore (least_verdict u t) x) (same_Some u v (sym e ∙ here)) (least_left u t)
          | inr rest ↦ counts_trans (least_verdict u t) t v (least_right u t) (h.first t v refl rest)
        ]);
  }

  -- what the transfers say is the first of it
  pub first_claimed : (rows : List Transfer) → IsFirstClaimed stops source from to rows (claimed_by stops source from to rows)
  first_claimed [] = record {
    nothing = λ none w (x, is_in, is). not_in_nil x is_in;
    something = λ w is. absurd (none-some w is);
    first = λ w v is claimed. absurd (none-some w is);
  }
  first_claimed (row ∷ rows) = step row rows (verdict_for stops source from to row) refl (claimed_by stops source from to rows) (first_claimed rows)

if_some : (b : Bool) (x : Option Verdict) (w : Verdict) → (if b then x else None) ≡ Some w → (b ≡ true) × (x ≡ Some w)
if_some true x w e = (refl, e)
if_some false x w e = absurd (none-some w e)

is_source_same : (a : Source) → is_source a a ≡ true
is_source_same Stops = refl
is_source_same Station = refl
is_source_same Default = refl

is_source_true : (a b : Source) → is_source a b ≡ true → a ≡ b
is_source_true Stops Stops e = refl
is_source_true Stops Station e = absurd (false≢true e)
is_source_true Stops Default e = absurd (false≢true e)
is_source_true Station Stops e = absurd (false≢true e)
is_source_true Station Station e = refl
is_source_true Station Default e = absurd (false≢true e)
is_source_true Default Stops e = absurd (false≢true e)
is_source_true Default Station e = absurd (false≢true e)
is_source_true Default Default e = refl

-- a row's claim, from what it says
pub claim_of_verdict : (stops : List Stop) (source : Source) (from to : ℕ) (row : Transfer) (w : Verdict) → verdict_for stops source from to row ≡ Some w
    → IsRowClaim stops row (claim_of to from source w)
claim_of_verdict stops source from to row w e =
    let p = if_some (is_source (source_of row) source && stands_for stops row.from from && stands_for stops row.to to) (verdict_of row (from == to)) w e in
    let q = and_parts (is_source (source_of row) source && stands_for stops row.from from) (stands_for stops row.to to) p.0 in
    let r = and_parts (is_source (source_of row) source) (stands_for stops row.from from) q.0 in
    record { from_stands = r.1; to_stands = q.1; source_is = sym (is_source_true (source_of row) source r.0); verdict_is = p.1 }

-- what a row says, from its claim
pub verdict_of_claim : (stops : List Stop) (row : Transfer) (c : Claim) → IsRowClaim stops row c → verdict_for stops c.source c.from c.to row ≡ Some c.verdict
verdict_of_claim stops row c h =
    let same : is_source (source_of row) c.source ≡ true = subst (λ (s : Source). is_source s c.source ≡ true) h.source_is (is_source_same c.source) in
    let all : (is_source (source_of row) c.source && stands_for stops row.from c.from && stands_for stops row.to c.to) ≡ true =
    and_from (is_source (source_of row) c.source && stands_for stops row.from c.from) (stands_for stops row.to c.to)
    (and_from (is_source (source_of row) c.source) (stands_for stops row.from c.from) same h.from_stands) h.to_stands in
    ap (λ (b : Bool). if b then verdict_of row (c.from == c.to) else None) all ∙ h.verdict_is

-- no row speaks by default
row_source : (p q : TransferEnd) → source_by p q ≡ Default → ⊥
row_source (TheStop a) (TheStop b) e = let h : source_number Stops ≡ source_number Default = ap (λ (s : Source). source_number s) e in omega (arith, h)
row_source (TheStop a) (TheStation b) e = let h : source_number Station ≡ source_number Default = ap (λ (s : Source). source_number s) e in omega (arith, h)
row_source (TheStation a) (TheStop b) e = let h : source_number Station ≡ source_number Default = ap (λ (s : Source). source_number s) e in omega (arith, h)
row_source (TheStation a) (TheStation b) e = let h : source_number Station ≡ source_number Default = ap (λ (s : Source). source_number s) e in omega (arith, h)

if_true : (b : Bool) (x y : Option Verdict) → b ≡ true → (if b then x else y) ≡ x
if_true true x y e = refl
if_true false x y e = absurd (false≢true e)

if_false : (b : Bool) (x y : Option Verdict) → b ≡ false → (if b then x else y) ≡ y
if_false true x y e = absurd (false≢true (sym e))
if_false false x y e = refl

-- a claim counts before all others on its pair
abbrev pub CountsFirst : Feed → Claim → Type 0
CountsFirst feed c = (d : Claim) → IsClaim feed.stops.items feed.transfers.items d → d.to ≡ c.to → d.from ≡ c.from
    → (source_number c.source ≤ source_number d.source) × (c.source ≡ d.source → CountsBefore c.verdict d.verdict)

module _ (feed : Feed) where
  abbrev pub stops : List Stop
  stops = feed.stops.items

  abbrev pub rows : List Transfer
  rows = feed.transfers.items

  -- what is said from a source is claimed
  pub claimed_claim : (source : Source) (from to : ℕ) (w : Verdict) → IsClaimed stops source from to rows w → IsClaim stops rows (claim_of to from source w)
  claimed_claim source from to w (row, is_in, is) = inl (row, is_in, claim_of_verdict stops source from to row w is)

  -- a claim that isn't by default is said
  claim_claimed : (c : Claim) → IsClaim stops rows c → (c.source ≡ Default → ⊥) → IsClaimed stops c.source c.from c.to rows c.verdict
  claim_claimed c (inl (row, is_in, h)) not_default = (row, is_in, verdict_of_claim stops row c h)
  claim_claimed c (inr (inl h)) not_default = absurd (not_default h.source_is)
  claim_claimed c (inr (inr h)) not_default = absurd (not_default h.source_is)

  -- a claim by default is what holds by default
  claim_default : (c : Claim) → IsClaim stops rows c → c.source ≡ Default → default_verdict stops c.from c.to ≡ Some c.verdict
  claim_default c (inl (row, is_in, h)) e = absurd (row_source row.from row.to (sym h.source_is ∙ e))
  claim_default c (inr (inl h)) e =
      let differ : (c.from == c.to) ≡ false = ne_eqb c.from c.to h.differ in
      if_false (c.from == c.to) (if nat_lt c.to (length stops) then Some (Takes 0) else None)
      (if is_of stops (station_of stops c.to) c.from then Some (Takes 120) else None) differ
      ∙ if_true (is_of stops (station_of stops c.to) c.from) (Some (Takes 120)) None h.siblings ∙ ap (λ (x : Verdict). Some x) (sym h.verdict_is)
  claim_default c (inr (inr h)) e =
      let same : (c.from == c.to) ≡ true = eq-eqb c.from c.to h.loop in
      if_true (c.from == c.to) (if nat_lt c.to (length stops) then Some (Takes 0) else None)
      (if is_of stops (station_of stops c.to) c.from then Some (Takes 120) else None) same
      ∙ if_true (nat_lt c.to (length stops)) (Some (Takes 0)) None (lt-ltb c.to (length stops) h.below) ∙ ap (λ (x : Verdict). Some x) (sym h.verdict_is)

  -- what holds by default is claimed
  default_claim : (from to : ℕ) (w : Verdict) → default_verdict stops from to ≡ Some w → IsClaim stops rows (claim_of to from Default w)
  default_claim from to w e = by (from == to) refl e
    where
      by : (b : Bool) → (from == to) ≡ b
          → (if b then (if nat_lt to (length stops) then Some (Takes 0) else None) else
          (if is_of stops (station_of stops to) from then Some (Takes 120) else None)) ≡ Some w
          → IsClaim stops rows (claim_of to from Default w)
      by true same is =
          let p = if_some (nat_lt to (length stops)) (Some (Takes 0)) w is in
          inr (inr (record {
            below = ltb-true to (length stops) p.0;
            loop = eqb-true from to same;
            source_is = refl;
            verdict_is =
                sym (same_Some (Takes 0) w p.1);
          }))
      by false differ is =
          let p = if_some (is_of stops (station_of stops to) from) (Some (Takes 120)) w is in
          inr (inl (record { siblings = p.0; differ = eqb-false from to differ; source_is = refl; verdict_is = sym (same_Some (Takes 120) w p.1) }))

  -- a source that isn't one that counts later
  source_cases : (s : Source) → (s ≡ Stops) ⊎ ((s ≡ Station) ⊎ (s ≡ Default))
  source_cases Stops = inl refl
  source_cases Station = inr (inl refl)
  source_cases Default = inr (inr refl)

  later : (s t : Source) → s ≡ t → (n : ℕ) → source_number t ≡ suc n → source_number s ≤ n → ⊥
  later s t e n is below = let h : source_number s ≡ source_number t = ap (λ (x : Source). source_number x) e in omega (arith, h, is, below)

  -- what is said from the source of the claim that counts first is its verdict
  counts_verdict : (c : Claim) (w : Verdict) → IsClaim stops rows c → CountsFirst feed c → (c.source ≡ Default → ⊥)
      → claimed_by stops c.source c.from c.to rows ≡ Some w → w ≡ c.verdict
  counts_verdict c w claim counts_first not_default is =
      let all : IsFirstClaimed stops c.source c.from c.to rows (claimed_by stops c.source c.from c.to rows) = first_claimed stops c.source c.from c.to rows in
      let there : CountsBefore w c.verdict = all.first w c.verdict is (claim_claimed c claim not_default) in
      let back : CountsBefore c.verdict w =
      (counts_first (claim_of c.to c.from c.source w) (claimed_claim c.source c.from c.to w (all.something w is)) refl refl).1
      refl in
      counts_both w c.verdict there back

  -- the verdict of the claim that counts first is what is said of the pair
  pub verdict_of_first : (c : Claim) → IsClaim stops rows c → CountsFirst feed c → verdict_between feed c.from c.to ≡ Some c.verdict
  verdict_of_first c claim counts_first = by_stops (claimed_by stops Stops c.from c.to rows) refl
    where
      by_station : claimed_by stops Stops c.from c.to rows ≡ None → (t : Option Verdict) → claimed_by stops Station c.from c.to rows ≡ t
          → or_else t (default_verdict stops c.from c.to) ≡ Some c.verdict
      by_station none (Some w) is = elim (source_cases c.source) [
        | inl e ↦ absurd ((first_claimed stops Stops c.from c.to rows).nothing none c.verdict
            (subst (λ (s : Source). IsClaimed stops s c.from c.to rows c.verdict) e
            (claim_claimed c claim (λ d. later c.source Default d 1 refl (subst (λ (s : Source). source_number s ≤ 1) (sym e) (omega arith))))))
        | inr (inl e) ↦ ap (λ (x : Verdict). Some x)
            (counts_verdict c w claim counts_first (λ d. later c.source Default d 1 refl (subst (λ (s : Source). source_number s ≤ 1) (sym e) (omega arith)))
            (subst (λ (s : Source). claimed_by stops s c.from c.to rows ≡ Some w) (sym e) is))
        | inr (inr e) ↦ absurd (later c.source Default e 1 refl
            (counts_first (claim_of c.to c.from Station w)
            (claimed_claim Station c.from c.to w ((first_claimed stops Station c.from c.to rows).something w is)) refl
            refl).0)
      ]
      by_station none None is = elim (source_cases c.source) [
        | inl e ↦ absurd ((first_claimed stops Stops c.from c.to rows).nothing none c.verdict
            (subst (λ (s : Source). IsClaimed stops s c.from c.to rows c.verdict) e
            (claim_claimed c claim (λ d. later c.source Default d 1 refl (subst (λ (s : Source). source_number s ≤ 1) (sym e) (omega arith))))))
        | inr (inl e) ↦ absurd ((first_claimed stops Station c.from c.to rows).nothing is c.verdict
            (subst (λ (s : Source). IsClaimed stops s c.from c.to rows c.verdict) e
            (claim_claimed c claim (λ d. later c.source Default d 1 refl (subst (λ (s : Source). source_number s ≤ 1) (sym e) (omega arith))))))
        | inr (inr e) ↦ claim_default c claim e
      ]

      by_stops : (s : Option Verdict) → claimed_by stops Stops c.from c.to rows ≡ s
          → or_else s (or_else (claimed_by stops Station c.from c.to rows) (default_verdict stops c.from c.to)) ≡ Some c.verdict
      by_stops (Some w) is =
          let low : source_number c.source ≤ 0 =
          (counts_first (claim_of c.to c.from Stops w) (claimed_claim Stops c.from c.to w ((first_claimed stops Stops c.from c.to rows).something w is)) refl
          refl).0 in
          elim (source_cases c.source) [
            | inl e ↦ ap (λ (x : Verdict). Some x) (counts_verdict c w claim counts_first (λ d. later c.source Default d 1 refl (omega (arith, low)))
                (subst (λ (s : Source). claimed_by stops s c.from c.to rows ≡ Some w) (sym e) is))
            | inr (inl e) ↦ absurd (later c.source Station e 0 refl low)
            | inr (inr e) ↦ absurd (later c.source Default e 1 refl (omega (arith, low)))
          ]
      by_stops None is = by_station is (claimed_by stops Station c.from c.to rows) refl

  -- what is said of a pair is claimed of it
  pub claim_between : (from to : ℕ) (w : Verdict) → verdict_between feed from to ≡ Some w → (d : Claim) × IsClaim stops rows d × (d.to ≡ to) × (d.from ≡ from)
  claim_between from to w e = by_stops (claimed_by stops Stops from to rows) refl e
    where
      by_station : (t : Option Verdict) → claimed_by stops Station from to rows ≡ t → or_else t (default_verdict stops from to) ≡ Some w → (d : Claim)
          × IsClaim stops rows d × (d.to ≡ to) × (d.from ≡ from)
      by_station (Some v) is e =
          (claim_of to from Station v, claimed_claim Station from to v ((first_claimed stops Station from to rows).something v is), refl, refl)
      by_station None is e = (claim_of to from Default w, default_claim from to w e, refl, refl)

      by_stops : (s : Option Verdict) → claimed_by stops Stops from to rows ≡ s
          → or_else s (or_else (claimed_by stops Station from to rows) (default_verdict stops from to)) ≡ Some w
          → (d : Claim) × IsClaim stops rows d × (d.to ≡ to) × (d.from ≡ from)
      by_stops (Some v) is e = (claim_of to from Stops v, claimed_claim Stops from to v ((first_claimed stops Stops from to rows).something v is), refl, refl)
      by_stops None is e = by_station (claimed_by stops Station from to rows) refl e
