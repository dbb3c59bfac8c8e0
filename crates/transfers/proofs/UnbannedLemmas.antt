-- The claims that are made even if no transfer is possible between two stations.
use Rattle.std.proofs.Common.{◌≡◌, ◌≢◌, ◌==◌, ◌⊎◌, inl, inr, ℕ, List, true, false, Option, Some, sym, ap, subst, ◌∙◌}
use Rattle.std.proofs.lemmas.Bool.{cases_eq, eqb-true, false≢true}
use Rattle.reasoning.proofs.ListLemmas.{same_at}
use Rattle.timetable.specs.Legal.{At}
use Rattle.gtfs_tables.specs.declared.tables.Stop.{Stop}
use Rattle.gtfs_tables.specs.declared.tables.Transfer.{Transfer}
use Rattle.gtfs_tables.specs.declared.tables.TransferEnd.{TransferEnd}
use Rattle.gtfs_tables.specs.declared.tables.TransferEnd.TheVariants.{Stop as TheStop, Station as TheStation}
use Rattle.transfers.specs.declared.claims.Source.{Source}
use Rattle.transfers.specs.declared.claims.Source.TheVariants.{Stops, Station, Default}
use Rattle.transfers.specs.declared.claims.Claim.{Claim}
use Rattle.transfers.specs.Listed.{stands_for, station_of, verdict_of}
use Rattle.transfers.specs.Claims.{Adds, AreStoodFor, ForOneOf, IsLoopOf, IsNumberedClaim, IsPairClaim, IsRowInto, IsSiblingInto}
use Rattle.transfers.specs.Bans.{Unbanned, IsBannedRow, IsOwnInto, IsBannedClaim, IsVoid, IsBanned, station_at}
use Rattle.transfers.proofs.AddLemmas.{adds_nothing, adds_same, unbanned_same}
use Rattle.transfers.proofs.BanLemmas.{decide_void}
use Rattle.transfers.proofs.ClaimLemmas.{into_back, into_there, station_is}

-- a place that stands for a stop is of the stop's station
stands_station : (all : List Stop) (index : TransferEnd) (stop : ℕ) → stands_for all index stop ≡ true → station_at all index ≡ station_of all stop
stands_station all (TheStop named) stop e = ap (λ (n : ℕ). station_of all n) (eqb-true named stop e)
stands_station all (TheStation station) stop e = sym (station_is (station_of all stop) station e)

module _ (all : List Stop) (rows : List Transfer) (to : ℕ) (row : Transfer) where
  -- a claim of a transfer may be left out exactly if the transfer is banned, and it is of no loop
  banned_row_of : (c : Claim) → IsRowInto all to row c → IsBannedClaim all rows c → IsBannedRow all rows row to
  banned_row_of c h banned =
      subst (λ (s : Source). IsBanned s (IsVoid rows (station_at all row.from) (station_of all to))) h.source_is
      (subst (λ (o : Option ℕ). IsBanned c.source (IsVoid rows o (station_of all to))) (sym (stands_station all row.from c.from h.from_stands))
      (subst (λ (n : ℕ). IsBanned c.source (IsVoid rows (station_of all c.from) (station_of all n))) h.to_is banned.void))

  banned_of : (c : Claim) → IsRowInto all to row c → c.from ≢ c.to → IsBannedRow all rows row to → IsBannedClaim all rows c
  banned_of c h differ banned = record {
    apart = differ;
    void = subst (λ (n : ℕ). IsBanned c.source (IsVoid rows (station_of all c.from) (station_of all n))) (sym h.to_is)
        (subst (λ (o : Option ℕ). IsBanned c.source (IsVoid rows o (station_of all to))) (stands_station all row.from c.from h.from_stands)
        (subst (λ (s : Source). IsBanned s (IsVoid rows (station_at all row.from) (station_of all to))) (sym h.source_is) banned));
  }

  -- of a banned transfer its loop alone counts
  pub banned_row : (old new : List Claim) → IsBannedRow all rows row to → Adds old new (IsOwnInto all to row)
      → Adds old new (Unbanned all rows (IsRowInto all to row))
  banned_row old new banned h = adds_same old new (IsOwnInto all to row) (Unbanned all rows (IsRowInto all to row))
      (λ c own. (own.0, λ banned. banned.apart own.1))
      (λ c m. (m.0, elim (cases_eq c.from c.to) [ inl same ↦ same | inr differ ↦ absurd (m.1 (banned_of c m.0 differ banned)) ]))
      h

  -- of others all is
  pub unbanned_row : (froms : List ℕ) → AreStoodFor all row.from froms → (old new : List Claim) → ¬ IsBannedRow all rows row to
      → Adds old new (ForOneOf froms (λ from. IsPairClaim row from to)) → Adds old new (Unbanned all rows (IsRowInto all to row))
  unbanned_row froms stand old new unbanned h = adds_same old new (ForOneOf froms (λ from. IsPairClaim row from to)) (Unbanned all rows (IsRowInto all to row))
      (λ c made. let own : IsRowInto all to row c = into_there all to row froms stand c made in (own, λ banned. unbanned (banned_row_of c own banned)))
      (λ c m. into_back all to row froms stand c m.0)
      h

  -- what it says of the loop
  pub own_row : (old new : List Claim) → stands_for all row.from to ≡ true → Adds old new (IsPairClaim row to to) → Adds old new (IsOwnInto all to row)
  own_row old new stands h = adds_same old new (IsPairClaim row to to) (IsOwnInto all to row)
      (λ c p. (
        record {
          from_stands = subst (λ (n : ℕ). stands_for all row.from n ≡ true) (sym p.from_is) stands;
          to_is = p.to_is;
          source_is = p.source_is;
          verdict_is = subst (λ (n : ℕ). verdict_of row (n == c.to) ≡ Some c.verdict) (sym p.from_is)
              (subst (λ (n : ℕ). verdict_of row (to == n) ≡ Some c.verdict) (sym p.to_is) p.verdict_is);
        },
        p.from_is ∙ sym p.to_is,
      ))
      (λ c m. record {
        from_is = m.1 ∙ m.0.to_is;
        to_is = m.0.to_is;
        source_is = m.0.source_is;
        verdict_is = subst (λ (n : ℕ). verdict_of row (to == n) ≡ Some c.verdict) m.0.to_is
            (subst (λ (n : ℕ). verdict_of row (n == c.to) ≡ Some c.verdict) (m.1 ∙ m.0.to_is) m.0.verdict_is);
      })
      h

  pub no_own : (claims : List Claim) → stands_for all row.from to ≡ false → Adds claims claims (IsOwnInto all to row)
  no_own claims off = adds_nothing claims (IsOwnInto all to row) (λ c m. false≢true (sym off
      ∙ subst (λ (n : ℕ). stands_for all row.from n ≡ true) (m.1 ∙ m.0.to_is) m.0.from_stands))

  -- the transfer of a number
  pub numbered_row : (number : ℕ) (old new : List Claim) → At rows number row → Adds old new (Unbanned all rows (IsRowInto all to row))
      → Adds old new (Unbanned all rows (IsNumberedClaim all rows to number))
  numbered_row number old new at h = unbanned_same (IsBannedClaim all rows) old new (IsRowInto all to row) (IsNumberedClaim all rows to number)
      (λ c made. (row, at, made))
      (λ c (other, at_other, is). subst (λ (r : Transfer). IsRowInto all to r c) (same_at rows number other row at_other at) is)
      h

module _ (all : List Stop) (rows : List Transfer) (station to : ℕ) where
  sibling_void : (c : Claim) → IsSiblingInto all station to c → IsBanned c.source (IsVoid rows (station_of all c.from) (station_of all c.to))
      ≡ IsVoid rows (Some station) (station_of all to)
  sibling_void c h =
      ap (λ (s : Source). IsBanned s (IsVoid rows (station_of all c.from) (station_of all c.to))) h.source_is
      ∙ ap (λ (o : Option ℕ). IsVoid rows o (station_of all c.to)) (station_is (station_of all c.from) station h.child)
      ∙ ap (λ (n : ℕ). IsVoid rows (Some station) (station_of all n)) h.to_is

  -- within a station between whose stops no transfer is possible nothing holds by default
  pub void_siblings : (claims : List Claim) → IsVoid rows (Some station) (station_of all to)
      → Adds claims claims (Unbanned all rows (IsSiblingInto all station to))
  void_siblings claims void = adds_nothing claims (Unbanned all rows (IsSiblingInto all station to))
      (λ c m. m.1 (record { apart = m.0.differ; void = subst (λ (P : Type 0). P) (sym (sibling_void c m.0)) void }))

  pub unbanned_siblings : (old new : List Claim) → ¬ IsVoid rows (Some station) (station_of all to) → Adds old new (IsSiblingInto all station to)
      → Adds old new (Unbanned all rows (IsSiblingInto all station to))
  unbanned_siblings old new open_ h = adds_same old new (IsSiblingInto all station to) (Unbanned all rows (IsSiblingInto all station to))
      (λ c own. (own, λ banned. open_ (subst (λ (P : Type 0). P) (sibling_void c own) banned.void)))
      (λ c m. m.0)
      h

-- a loop's claim is always made
pub unbanned_loop : (all : List Stop) (rows : List Transfer) (to : ℕ) (old new : List Claim) → Adds old new (IsLoopOf to)
    → Adds old new (Unbanned all rows (IsLoopOf to))
unbanned_loop all rows to old new h = adds_same old new (IsLoopOf to) (Unbanned all rows (IsLoopOf to))
    (λ c own. (own, λ banned. banned.apart (own.from_is ∙ sym own.to_is)))
    (λ c m. m.0)
    h

-- whether a claim may be left out
decide_source : (s : Source) (void : Type 0) → void ⊎ ¬ void → IsBanned s void ⊎ ¬ IsBanned s void
decide_source Stops void either = inr (λ h. h)
decide_source Station void either = either
decide_source Default void either = either

pub decide_banned : (all : List Stop) (rows : List Transfer) (c : Claim) → IsBannedClaim all rows c ⊎ ¬ IsBannedClaim all rows c
decide_banned all rows c = elim (cases_eq c.from c.to) [
  | inl same ↦ inr (λ banned. banned.apart same)
  | inr differ ↦ elim (decide_source c.source (IsVoid rows (station_of all c.from) (station_of all c.to))
      (decide_void rows (station_of all c.from) (station_of all c.to))) [
        | inl void ↦ inl (record { apart = differ; void = void })
        | inr open_ ↦ inr (λ banned. open_ banned.void)
      ]
]
