-- The claim of a listed footpath is never left out.
use Rattle.std.proofs.Common.{◌≡◌, ◌==◌, inl, inr, ℕ, List, Bool, true, false, Option, Some, None, refl, sym, ap, subst, ◌∙◌}
use Rattle.std.proofs.lemmas.Bool.{ne_eqb}
use Rattle.std.proofs.lemmas.Option.{same_Some}
use Rattle.timetable.specs.First.{or_else}
use Rattle.gtfs_rows.specs.declared.rows.TransferKind.{TransferKind}
use Rattle.gtfs_tables.specs.declared.tables.Stop.{Stop}
use Rattle.gtfs_tables.specs.declared.tables.Transfer.{Transfer}
use Rattle.gtfs_tables.specs.declared.tables.TransferEnd.{TransferEnd}
use Rattle.gtfs_tables.specs.declared.tables.TransferEnd.TheVariants.{Station as TheStation}
use Rattle.gtfs_tables.specs.declared.tables.Feed.{Feed}
use Rattle.transfers.specs.declared.claims.Source.{Source}
use Rattle.transfers.specs.declared.claims.Source.TheVariants.{Stops, Station, Default}
use Rattle.transfers.specs.declared.claims.Verdict.{Verdict}
use Rattle.transfers.specs.declared.claims.Verdict.TheVariants.{Never, Takes}
use Rattle.transfers.specs.declared.claims.Claim.{Claim}
use Rattle.transfers.specs.Listed.{default_verdict, claimed_by, source_by, stands_for, station_of, verdict_between, verdict_by, verdict_of}
use Rattle.transfers.specs.Claims.{IsClaim, IsRowClaim}
use Rattle.transfers.specs.Bans.{IsBan, IsBannedClaim, IsVoid, IsBanned}
use Rattle.transfers.proofs.ClaimLemmas.{claim_of, is_its_station}
use Rattle.transfers.proofs.PathLemmas.{never_takes}
use Rattle.transfers.proofs.VerdictLemmas.{IsClaimed, claim_between, first_claimed, claimed_claim, verdict_of_claim}
use Rattle.transfers.proofs.UnbannedLemmas.{decide_banned}

module _ (feed : Feed) (from to : ℕ) where
  abbrev stops : List Stop
  stops = feed.stops.items

  abbrev rows : List Transfer
  rows = feed.transfers.items

  -- a transfer that forbids all between the stations of two stops says so of these
  forbidden : (differ : (from == to) ≡ false) (a b : ℕ) → station_of stops from ≡ Some a → station_of stops to ≡ Some b → IsBan rows a b
      → IsClaimed stops Station from to rows Never
  forbidden differ a b from_is to_is (row, is_in, kind, at_from, at_to) =
      let claim : IsRowClaim stops row (claim_of to from Station Never) = record {
        from_stands = subst (λ (p : TransferEnd). stands_for stops p from ≡ true) (sym at_from) (is_its_station (station_of stops from) a from_is);
        to_stands = subst (λ (p : TransferEnd). stands_for stops p to ≡ true) (sym at_to) (is_its_station (station_of stops to) b to_is);
        source_is = sym (ap (λ (p : TransferEnd). source_by p row.to) at_from ∙ ap (λ (p : TransferEnd). source_by (TheStation a) p) at_to);
        verdict_is = ap (λ (l : Bool). verdict_of row l) differ ∙ ap (λ (k : TransferKind). verdict_by k row.seconds false) kind;
      } in
      (row, is_in, verdict_of_claim stops row (claim_of to from Station Never) claim)

  void_claimed : (differ : (from == to) ≡ false) (o p : Option ℕ) → station_of stops from ≡ o → station_of stops to ≡ p → IsVoid rows o p
      → IsClaimed stops Station from to rows Never
  void_claimed differ None p e f void = absurd void
  void_claimed differ (Some a) None e f void = absurd void
  void_claimed differ (Some a) (Some b) e f void = forbidden differ a b e f void

  -- then there is no footpath, unless a transfer names both
  never_station : (t : Option Verdict) → claimed_by stops Station from to rows ≡ t → IsClaimed stops Station from to rows Never → (secs : ℕ)
      → or_else t (default_verdict stops from to) ≡ Some (Takes secs) → ⊥
  never_station None is claimed secs e = (first_claimed stops Station from to rows).nothing is Never claimed
  never_station (Some Never) is claimed secs e = never_takes secs (same_Some Never (Takes secs) e)
  never_station (Some (Takes n)) is claimed secs e = (first_claimed stops Station from to rows).first (Takes n) Never is claimed

  -- so the claim of a listed footpath isn't left out
  pub unbanned_between : (secs : ℕ) → verdict_between feed from to ≡ Some (Takes secs)
      → (d : Claim) × IsClaim stops rows d × ¬ IsBannedClaim stops rows d × (d.to ≡ to) × (d.from ≡ from)
  unbanned_between secs e = by_stops (claimed_by stops Stops from to rows) refl e
    where
      by_stops : (s : Option Verdict) → claimed_by stops Stops from to rows ≡ s
          → or_else s (or_else (claimed_by stops Station from to rows) (default_verdict stops from to)) ≡ Some (Takes secs)
          → (d : Claim) × IsClaim stops rows d × ¬ IsBannedClaim stops rows d × (d.to ≡ to) × (d.from ≡ from)
      by_stops (Some v) is e2 = (
        claim_of to from Stops v,
        claimed_claim feed Stops from to v ((first_claimed stops Stops from to rows).something v is),
        (λ banned. banned.void),
        refl,
        refl,
      )
      by_stops None is e2 =
          let (d, claim, d_to, d_from) = claim_between feed from to (Takes secs) e in
          elim (decide_banned stops rows d) [
            | inr unbanned ↦ (d, claim, unbanned, d_to, d_from)
            | inl banned ↦ absurd (never_station (claimed_by stops Station from to rows) refl (claimed d d_to d_from banned) secs e2)
          ]
        where
          void_of : (s : Source) (void : Type 0) → IsBanned s void → void
          void_of Stops void m = absurd m
          void_of Station void m = m
          void_of Default void m = m

          claimed : (d : Claim) → d.to ≡ to → d.from ≡ from → IsBannedClaim stops rows d → IsClaimed stops Station from to rows Never
          claimed d d_to d_from banned = void_claimed (ne_eqb from to (λ same. banned.apart (d_from ∙ same ∙ sym d_to)))
              (station_of stops from) (station_of stops to)
              refl refl
              (subst (λ (n : ℕ). IsVoid rows (station_of stops n) (station_of stops to)) d_from
              (subst (λ (n : ℕ). IsVoid rows (station_of stops d.from) (station_of stops n)) d_to
              (void_of d.source (IsVoid rows (station_of stops d.from) (station_of stops d.to)) banned.void)))
