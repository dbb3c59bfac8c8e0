-- The transfers that are left say the same about each pair of stops as all of them.
use Rattle.std.proofs.Common.{◌≡◌, ◌==◌, inl, inr, ℕ, ◌+◌, ◌<◌, List, [], ◌∷◌, ◌++◌, length, take, get_or, Bool, true, false, Option, Some, None, Contains}
use Rattle.std.proofs.Common.{refl, sym, ap, subst, ◌∙◌}
use Rattle.std.proofs.lemmas.List.{take_more}
use Rattle.std.proofs.lemmas.List.Elements.{All-contains, All-contains_itself, All-weaker, Contains-push, Contains-push_cases, Contains-append_left}
use Rattle.std.proofs.lemmas.Option.{same_Some, none-some}
use Rattle.std.specs.List.Sorted.{IsPermutation}
use Rattle.std.proofs.lemmas.List.Sorted.{Contains-permutation, IsPermutation-sym}
use Rattle.reasoning.proofs.ListLemmas.{not_in_nil}
use Rattle.timetable.specs.First.{or_else}
use Rattle.timetable.specs.declared.network.Footpath.{Footpath}
use Rattle.gtfs_tables.specs.Joined.{NameStopsBelow, NamesBelow}
use Rattle.gtfs_tables.specs.declared.tables.Stop.{Stop}
use Rattle.gtfs_tables.specs.declared.tables.Transfer.{Transfer}
use Rattle.gtfs_tables.specs.declared.tables.Feed.{Feed}
use Rattle.gtfs_tables.specs.declared.tables.TransferEnd.{TransferEnd}
use Rattle.transfers.specs.declared.claims.Source.{Source}
use Rattle.transfers.specs.declared.claims.Source.TheVariants.{Stops, Station}
use Rattle.transfers.specs.declared.claims.Verdict.{Verdict}
use Rattle.transfers.specs.Listed.{AreListed, claimed_by, verdict_for, verdict_of, source_by, stands_for}
use Rattle.transfers.specs.Listed.{default_verdict, verdict_between, secs_of, listed_secs}
use Rattle.transfers.specs.Claims.{CountsBefore, IsRowClaim}
use Rattle.transfers.specs.Counting.{KeepsWhatCounts, CountsInstead, IsCoveredIn, KeepsOrCovers, Covers}
use Rattle.transfers.proofs.ClaimLemmas.{claim_of}
use Rattle.transfers.proofs.VerdictLemmas.{IsClaimed, IsFirstClaimed, first_claimed, claim_of_verdict, verdict_of_claim, counts_both, counts_trans}

-- of no transfers none are left
pub keeps_none : (rows : List Transfer) → KeepsWhatCounts (take 0 rows) []
keeps_none rows = record {
  only = λ row is_in. absurd (not_in_nil row is_in);
  each = λ row is_in. absurd (not_in_nil row is_in);
}

-- what is left names stops of the feed, too
pub still_named : (stops : ℕ) (rows kept : List Transfer) → KeepsWhatCounts rows kept → NameStopsBelow stops rows → NameStopsBelow stops kept
still_named stops rows kept counting named =
    let below : Transfer → Type 0 = λ (row : Transfer). NamesBelow stops row.from × NamesBelow stops row.to in
    All-weaker (Contains kept) below (λ row is_in. All-contains below rows row named (counting.only row is_in)) kept (All-contains_itself kept)

-- one transfer more
pub keeps_more : (rows : List Transfer) (i : ℕ) (d : Transfer) (old new : List Transfer) → i < length rows → KeepsWhatCounts (take i rows) old
    → KeepsOrCovers old new (get_or rows i d) → KeepsWhatCounts (take (i + 1) rows) new
keeps_more rows i d old new below before step =
    let more : take (i + 1) rows ≡ take i rows ++ get_or rows i d ∷ [] = take_more rows i d below in
    subst (λ (ts : List Transfer). KeepsWhatCounts ts new) (sym more) (record {
      only = λ row is_in. elim (step.only row is_in) [
        | inl was ↦ Contains-append_left (take i rows) (get_or rows i d ∷ []) row (before.only row was)
        | inr same ↦ subst (λ (x : Transfer). Contains (take i rows ++ get_or rows i d ∷ []) x) (sym same) (Contains-push (take i rows) (get_or rows i d))
      ];
      each = λ row is_in. elim (Contains-push_cases (take i rows) (get_or rows i d) row is_in) [
        | inl was ↦ let (x, there, says) = before.each row was in (x, step.kept x there, says)
        | inr same ↦ subst (λ (x : Transfer). IsCoveredIn new x) same step.claimed
      ];
    })

-- of transfers in another order the same are left
pub keeps_moved : (rows moved kept : List Transfer) → IsPermutation rows moved → KeepsWhatCounts moved kept → KeepsWhatCounts rows kept
keeps_moved rows moved kept same h = record {
  only = λ row is_in. Contains-permutation moved rows row (IsPermutation-sym rows moved same) (h.only row is_in);
  each = λ row is_in. h.each row (Contains-permutation rows moved row same is_in);
}

-- whatever is said is said before it
claimed_before : (claimed other : Option Verdict) → CountsInstead claimed other → (w : Verdict) → other ≡ Some w
    → (v : Verdict) × (claimed ≡ Some v) × CountsBefore v w
claimed_before claimed None h w e = absurd (none-some w e)
claimed_before None (Some other) h w e = absurd h
claimed_before (Some v) (Some other) h w e = (v, refl, subst (λ (x : Verdict). CountsBefore v x) (same_Some other w e) h)

of_pair : (row other : Transfer) → Covers row other → (b : Bool) → CountsInstead (verdict_of row b) (verdict_of other b)
of_pair row other h true = h.at_one
of_pair row other h false = h.apart

-- two transfers of the same places have one source
same_source : (p q r s : TransferEnd) → p ≡ r → q ≡ s → source_by r s ≡ source_by p q
same_source p q r s e f = sym (ap (λ (x : TransferEnd). source_by x q) e ∙ ap (λ (x : TransferEnd). source_by r x) f)

module _ (stops : List Stop) (source : Source) (from to : ℕ) where
  -- the first says something of each pair of which the second does, that counts before it or is the same
  covers_of : (row other : Transfer) → Covers row other → (w : Verdict) → verdict_for stops source from to other ≡ Some w
      → (v : Verdict) × (verdict_for stops source from to row ≡ Some v) × CountsBefore v w
  covers_of row other h w e =
      let claim : IsRowClaim stops other (claim_of to from source w) = claim_of_verdict stops source from to other w e in
      let (v, is, before) = claimed_before (verdict_of row (from == to)) (verdict_of other (from == to))
      (of_pair row other h (from == to)) w claim.verdict_is in
      let own : IsRowClaim stops row (claim_of to from source v) = record {
        from_stands = subst (λ (p : TransferEnd). stands_for stops p from ≡ true) (sym h.from_is) claim.from_stands;
        to_stands = subst (λ (p : TransferEnd). stands_for stops p to ≡ true) (sym h.to_is) claim.to_stands;
        source_is = claim.source_is ∙ same_source row.from row.to other.from other.to h.from_is h.to_is;
        verdict_is = is;
      } in
      (v, verdict_of_claim stops row (claim_of to from source v) own, before)

  module _ (rows kept : List Transfer) (once : KeepsWhatCounts rows kept) where
    still_claimed : (w : Verdict) → IsClaimed stops source from to kept w → IsClaimed stops source from to rows w
    still_claimed w (row, is_in, says) = (row, once.only row is_in, says)

    claimed_first : (w : Verdict) → IsClaimed stops source from to rows w → (v : Verdict) × IsClaimed stops source from to kept v × CountsBefore v w
    claimed_first w (other, is_in, says) =
        let (row, there, first) = once.each other is_in in
        let (v, is, before) = covers_of row other first w says in
        (v, (row, there, is), before)

    by_cases : (o p : Option Verdict) → IsFirstClaimed stops source from to rows o → IsFirstClaimed stops source from to kept p → p ≡ o
    by_cases None None h k = refl
    by_cases None (Some u) h k = absurd (h.nothing refl u (still_claimed u (k.something u refl)))
    by_cases (Some w) None h k = let (v, claimed, before) = claimed_first w (h.something w refl) in absurd (k.nothing refl v claimed)
    by_cases (Some w) (Some u) h k =
        let (v, claimed, before) = claimed_first w (h.something w refl) in
        let there : CountsBefore u w = counts_trans u v w (k.first u v refl claimed) before in
        let back : CountsBefore w u = h.first w u refl (still_claimed u (k.something u refl)) in
        ap (λ (x : Verdict). Some x) (counts_both u w there back)

    -- what they say of a pair is the same
    pub same_claimed : claimed_by stops source from to kept ≡ claimed_by stops source from to rows
    same_claimed = by_cases (claimed_by stops source from to rows) (claimed_by stops source from to kept) (first_claimed stops source from to rows)
        (first_claimed stops source from to kept)

-- two feeds list the same footpaths if they have the same stops and one has the transfers that are left of the other's
module _ (feed counting : Feed) (stops_are : counting.stops.items ≡ feed.stops.items)
    (once : KeepsWhatCounts feed.transfers.items counting.transfers.items) where
  same_claimed_from : (source : Source) (from to : ℕ)
      → claimed_by counting.stops.items source from to counting.transfers.items ≡ claimed_by feed.stops.items source from to feed.transfers.items
  same_claimed_from source from to =
      ap (λ (stops : List Stop). claimed_by stops source from to counting.transfers.items) stops_are
      ∙ same_claimed feed.stops.items source from to feed.transfers.items counting.transfers.items once

  same_verdict : (from to : ℕ) → verdict_between counting from to ≡ verdict_between feed from to
  same_verdict from to =
      ap (λ (o : Option Verdict). or_else o (or_else (claimed_by counting.stops.items Station from to counting.transfers.items)
      (default_verdict counting.stops.items from to))) (same_claimed_from Stops from to)
      ∙ ap (λ (o : Option Verdict). or_else (claimed_by feed.stops.items Stops from to feed.transfers.items) (or_else o
      (default_verdict counting.stops.items from to))) (same_claimed_from Station from to)
      ∙ ap (λ (stops : List Stop). or_else (claimed_by feed.stops.items Stops from to feed.transfers.items)
      (or_else (claimed_by feed.stops.items Station from to feed.transfers.items) (default_verdict stops from to))) stops_are

  same_secs : (from to : ℕ) → listed_secs counting from to ≡ listed_secs feed from to
  same_secs from to = ap (λ (o : Option Verdict). secs_of o) (same_verdict from to)

  pub same_listed : (meant : ℕ → ℕ → Type 0) (paths : List Footpath) → AreListed counting meant paths → AreListed feed meant paths
  same_listed meant paths h = record {
    in_order = h.in_order;
    has = λ from to secs is_in. let (m, is) = h.has from to secs is_in in (m, sym (same_secs from to) ∙ is);
    each = λ from to secs m is. h.each from to secs m (same_secs from to ∙ is);
  }
