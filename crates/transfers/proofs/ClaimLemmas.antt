-- Which claims are made, and about which pairs of stops.
use Rattle.std.proofs.Common.{◌≡◌, ◌==◌, ℕ, ◌<◌, ◌⊎◌, inl, inr, List, [], ◌∷◌, ◌++◌, length, map, true, Option, Some, None, Contains, refl, sym, ap, subst, ◌∙◌}
use Rattle.std.specs.List.{slice_get}
use Rattle.std.proofs.lemmas.Bool.{eqb-true, eq-eqb, false≢true}
use Rattle.std.proofs.lemmas.Option.{same_Some, none-some, slice_get_within}
use Rattle.reasoning.proofs.ListLemmas.{contains_at, at_contains, same_at, at_below}
use Rattle.reasoning.proofs.OrderLemmas.{own_equal}
use Rattle.timetable.specs.Legal.{At}
use Rattle.gtfs_tables.specs.declared.tables.Stop.{Stop}
use Rattle.gtfs_tables.specs.declared.tables.Transfer.{Transfer}
use Rattle.gtfs_tables.specs.declared.tables.TransferEnd.{TransferEnd}
use Rattle.gtfs_tables.specs.declared.tables.TransferEnd.TheVariants.{Stop as TheStop, Station as TheStation}
use Rattle.transfers.specs.declared.claims.Source.{Source}
use Rattle.transfers.specs.declared.claims.Source.TheVariants.{Default}
use Rattle.transfers.specs.declared.claims.Verdict.{Verdict}
use Rattle.transfers.specs.declared.claims.Verdict.TheVariants.{Takes}
use Rattle.transfers.specs.declared.claims.Claim.{Claim}
use Rattle.transfers.specs.Listed.{stands_for, station_of, station_in, is_station, is_child, is_of, verdict_of}
use Rattle.transfers.specs.Groups.{IsGroup}
use Rattle.transfers.specs.Lookup.{end_stop, end_station}
use Rattle.transfers.specs.Claims.{Adds, ForOneOf, IsPairClaim, IsRowInto, IsNumberedClaim, IsClaimBy, IsSiblingPair, IsSiblingInto, IsRowClaim}
use Rattle.transfers.specs.Claims.{IsLoopOf, IsStationClaim, IsStopClaim, IsClaimInto, AreStoodFor, AreChildren}
use Rattle.transfers.specs.Bans.{Unbanned, IsBannedClaim}
use Rattle.transfers.proofs.AddLemmas.{adds_one, adds_same, adds_nothing, unbanned_same, unbanned_then}
use Rattle.transfers.proofs.ListLemmas.{at_map, from_map}

-- a station is the one that it is
pub station_is : (o : Option ℕ) (station : ℕ) → is_station o station ≡ true → o ≡ Some station
station_is None station e = absurd (false≢true e)
station_is (Some other) station e = ap (λ (n : ℕ). Some n) (eqb-true other station e)

pub is_its_station : (o : Option ℕ) (station : ℕ) → o ≡ Some station → is_station o station ≡ true
is_its_station o station e = subst (λ (p : Option ℕ). is_station p station ≡ true) (sym e) (eq-eqb station station refl)

abbrev pub claim_of : ℕ → ℕ → Source → Verdict → Claim
claim_of to from source verdict = record { to = to; from = from; source = source; verdict = verdict }

-- the stops whose station is keyed so are its children
pub children_are : (all : List Stop) (station : ℕ) (stops : List ℕ) → IsGroup (map (λ (stop : Stop). stop.station) all) station stops
    → AreChildren all station stops
children_are all station stops group = record {
  has = λ stop is_in.
      let (x, at, is) = from_map (λ (stop : Stop). stop.station) all stop (Some station) (group.has stop is_in) in
      is_its_station (station_of all stop) station (ap (λ (o : Option Stop). station_in o) at ∙ is);
  each = λ stop child. group.each stop (keyed stop (slice_get all stop) refl (station_is (station_of all stop) station child));
}
  where
    keyed : (stop : ℕ) (o : Option Stop) → slice_get all stop ≡ o → station_in o ≡ Some station
        → At (map (λ (stop : Stop). stop.station) all) stop (Some station)
    keyed stop None at is = absurd (none-some station is)
    keyed stop (Some x) at is = at_map (λ (stop : Stop). stop.station) all stop x at ∙ ap (λ (o : Option ℕ). Some o) is

-- a place that names a stop, or a station, is that one
stop_is : (index : TransferEnd) (stop : ℕ) → end_stop index ≡ Some stop → index ≡ TheStop stop
stop_is (TheStop named) stop e = ap (λ (n : ℕ). TheStop n) (same_Some named stop e)
stop_is (TheStation named) stop e = absurd (none-some stop e)

named_station : (index : TransferEnd) (station : ℕ) → end_station index ≡ Some station → index ≡ TheStation station
named_station (TheStop named) station e = absurd (none-some station e)
named_station (TheStation named) station e = ap (λ (n : ℕ). TheStation n) (same_Some named station e)

module _ (all : List Stop) (to : ℕ) (row : Transfer) (froms : List ℕ) (from_stops : AreStoodFor all row.from froms) where
  pub into_there : (c : Claim) → ForOneOf froms (λ from. IsPairClaim row from to) c → IsRowInto all to row c
  into_there c (from, in_froms, p) = record {
    from_stands = subst (λ (n : ℕ). stands_for all row.from n ≡ true) (sym p.from_is) (from_stops.stand from in_froms);
    to_is = p.to_is;
    source_is = p.source_is;
    verdict_is = subst (λ (n : ℕ). verdict_of row (n == c.to) ≡ Some c.verdict) (sym p.from_is) (subst
        (λ (n : ℕ). verdict_of row (from == n) ≡ Some c.verdict) (sym p.to_is) p.verdict_is);
  }

  own_pair : (c : Claim) → IsRowInto all to row c → IsPairClaim row c.from to c
  own_pair c h = record {
    from_is = refl;
    to_is = h.to_is;
    source_is = h.source_is;
    verdict_is = subst (λ (n : ℕ). verdict_of row (c.from == n) ≡ Some c.verdict) h.to_is h.verdict_is;
  }

  pub into_back : (c : Claim) → IsRowInto all to row c → ForOneOf froms (λ from. IsPairClaim row from to) c
  into_back c h = (c.from, from_stops.each c.from h.from_stands, own_pair c h)

-- a transfer that isn't there says nothing
pub adds_no_row : (all : List Stop) (rows : List Transfer) (to number : ℕ) (claims : List Claim) → slice_get rows number ≡ None
    → Adds claims claims (Unbanned all rows (IsNumberedClaim all rows to number))
adds_no_row all rows to number claims none = adds_nothing claims (Unbanned all rows (IsNumberedClaim all rows to number))
    (λ c m. none-some m.0.0 (sym none ∙ m.0.1))

-- the transfers in a group are those that lead to its place
module _ (all : List Stop) (rows : List Transfer) (to key : ℕ) (named : TransferEnd
    → Option ℕ) (index : TransferEnd) (numbers : List ℕ) (group : IsGroup (map (λ (row : Transfer). named row.to) rows) key numbers)
    (there : (p : TransferEnd) → named p ≡ Some key → p ≡ index) (back : named index ≡ Some key) where
  pub adds_group : (old new : List Claim) → Adds old new (Unbanned all rows (ForOneOf numbers (IsNumberedClaim all rows to)))
      → Adds old new (Unbanned all rows (IsClaimBy all rows index to))
  adds_group old new h = unbanned_same (IsBannedClaim all rows) old new (ForOneOf numbers (IsNumberedClaim all rows to)) (IsClaimBy all rows index to)
      (λ c (number, is_in, (row, at, is)).
      let (other, at_other, key_is) = from_map (λ (row : Transfer). named row.to) rows number (Some key) (group.has number is_in) in
      let own : named row.to ≡ Some key = subst (λ (r : Transfer). named r.to ≡ Some key) (same_at rows number other row at_other at) key_is in
      (row, contains_at rows number row at, there row.to own, is))
      (λ c (row, is_in, to_is, is).
      let (number, at) = at_contains rows row is_in in
      let keyed : At (map (λ (row : Transfer). named row.to) rows) number (Some key) = at_map (λ (row : Transfer). named row.to) rows number row at
      ∙ ap (λ (o : Option ℕ). Some o) (ap (λ (p : TransferEnd). named p) to_is ∙ back) in
      (number, group.each number keyed, (row, at, is)))
      h

-- those that lead to a stop itself, and those that lead to a station
pub adds_to_stop : (all : List Stop) (rows : List Transfer) (to : ℕ) (numbers : List ℕ)
    → IsGroup (map (λ (row : Transfer). end_stop row.to) rows) to numbers → (old new : List Claim)
    → Adds old new (Unbanned all rows (ForOneOf numbers (IsNumberedClaim all rows to)))
    → Adds old new (Unbanned all rows (IsClaimBy all rows (TheStop to) to))
adds_to_stop all rows to numbers group old new h = adds_group all rows to to (λ p. end_stop p) (TheStop to) numbers group
    (λ p e. stop_is p to e) refl old new h

pub adds_to_station : (all : List Stop) (rows : List Transfer) (to station : ℕ) (numbers : List ℕ)
    → IsGroup (map (λ (row : Transfer). end_station row.to) rows) station numbers → (old new : List Claim)
    → Adds old new (Unbanned all rows (ForOneOf numbers (IsNumberedClaim all rows to)))
    → Adds old new (Unbanned all rows (IsClaimBy all rows (TheStation station) to))
adds_to_station all rows to station numbers group old new h = adds_group all rows to station (λ p. end_station p) (TheStation station) numbers group
    (λ p e. named_station p station e) refl old new h

module _ (all : List Stop) (station to : ℕ) (children : List ℕ) (they_are : AreChildren all station children) where
  sibling_there : (c : Claim) → ForOneOf children (λ from. IsSiblingPair from to) c → IsSiblingInto all station to c
  sibling_there c (from, is_in, p) = record {
    child = subst (λ (n : ℕ). is_child all station n ≡ true) (sym p.from_is) (they_are.has from is_in);
    to_is = p.to_is;
    differ = λ e. p.differ (sym p.from_is ∙ e ∙ p.to_is);
    source_is = p.source_is;
    verdict_is = p.verdict_is;
  }

  own_siblings : (c : Claim) → IsSiblingInto all station to c → IsSiblingPair c.from to c
  own_siblings c h = record {
    from_is = refl;
    to_is = h.to_is;
    differ = λ e. h.differ (e ∙ sym h.to_is);
    source_is = h.source_is;
    verdict_is = h.verdict_is;
  }

  sibling_back : (c : Claim) → IsSiblingInto all station to c → ForOneOf children (λ from. IsSiblingPair from to) c
  sibling_back c h = (c.from, they_are.each c.from h.child, own_siblings c h)

  -- what holds of the ways from the stops of a station
  pub adds_siblings : (old new : List Claim) → Adds old new (ForOneOf children (λ from. IsSiblingPair from to)) → Adds old new (IsSiblingInto all station to)
  adds_siblings old new h = adds_same old new (ForOneOf children (λ from. IsSiblingPair from to)) (IsSiblingInto all station to) sibling_there sibling_back h

-- first by transfers, then within the station
pub adds_station : (all : List Stop) (rows : List Transfer) (station to : ℕ) (old mid new : List Claim)
    → Adds old mid (Unbanned all rows (IsClaimBy all rows (TheStation station) to)) → Adds mid new (Unbanned all rows (IsSiblingInto all station to))
    → Adds old new (Unbanned all rows (IsStationClaim all rows station to))
adds_station all rows station to old mid new first second = unbanned_then (IsBannedClaim all rows) old mid new (IsClaimBy all rows (TheStation station) to)
    (IsSiblingInto all station to) (IsStationClaim all rows station to)
    (λ c h. inl h) (λ c h. inr h) (λ c h. h) first second

-- first as one of its station, then the loop
pub adds_stop : (all : List Stop) (rows : List Transfer) (station to : ℕ) (old mid new : List Claim)
    → Adds old mid (Unbanned all rows (IsStationClaim all rows station to)) → Adds mid new (Unbanned all rows (IsLoopOf to))
    → Adds old new (Unbanned all rows (IsStopClaim all rows (Some station) to))
adds_stop all rows station to old mid new first second = unbanned_then (IsBannedClaim all rows) old mid new (IsStationClaim all rows station to)
    (IsLoopOf to) (IsStopClaim all rows (Some station) to)
    (λ c h. inl h) (λ c h. inr h) (λ c h. h) first second

module _ (all : List Stop) (rows : List Transfer) (to : ℕ) where
  by_there : (index : TransferEnd) (c : Claim) → stands_for all index to ≡ true → IsClaimBy all rows index to c → IsClaimInto all rows to c
  by_there index c stands (row, is_in, index_is, h) = (
    inl (
      row,
      is_in,
      record {
        from_stands = h.from_stands;
        to_stands = subst (λ (p : TransferEnd). stands_for all p c.to ≡ true) (sym index_is)
            (subst (λ (n : ℕ). stands_for all index n ≡ true) (sym h.to_is) stands);
        source_is = h.source_is;
        verdict_is = h.verdict_is;
      },
    ),
    h.to_is,
  )

  by_back : (c : Claim) (row : Transfer) → Contains rows row → IsRowClaim all row c → c.to ≡ to → (index : TransferEnd) → row.to ≡ index
      → IsClaimBy all rows index to c
  by_back c row is_in h to_is index index_is =
      (row, is_in, index_is, record { from_stands = h.from_stands; to_is = to_is; source_is = h.source_is; verdict_is = h.verdict_is })

  loop_there : (stop : Stop) → At all to stop → (c : Claim) → IsLoopOf to c → IsClaimInto all rows to c
  loop_there stop at c h = (
    inr (inr (record {
      below = subst
          (λ (n : ℕ). n < length all) (sym h.to_is) (slice_get_within all to stop at);
      loop = h.from_is
          ∙ sym h.to_is;
      source_is = h.source_is;
      verdict_is = h.verdict_is;
    })),
    h.to_is,
  )

  stop_there : (stop : Stop) → At all to stop → (o : Option ℕ) → stop.station ≡ o → (c : Claim) → IsStopClaim all rows o to c → IsClaimInto all rows to c
  stop_there stop at None is c h = loop_there stop at c h
  stop_there stop at (Some station) is c (inl (inl h)) = by_there (TheStation station) c (is_its_station (station_of all to) station (ap
      (λ (o : Option Stop). station_in o) at ∙ is)) h
  stop_there stop at (Some station) is c (inl (inr h)) =
      let its : station_of all c.to ≡ Some station = subst (λ (n : ℕ). station_of all n ≡ Some station) (sym h.to_is) (ap
      (λ (o : Option Stop). station_in o) at ∙ is) in (
        inr (inl (record {
          siblings = subst
              (λ (o : Option ℕ). is_of all o c.from ≡ true) (sym its) h.child;
          differ = h.differ;
          source_is = h.source_is;
          verdict_is = h.verdict_is;
        })),
        h.to_is,
      )
  stop_there stop at (Some station) is c (inr h) = loop_there stop at c h

  -- a way into a stop of the feed is claimed by a transfer to that stop, or beside these
  stop_cases : (stop : Stop) → At all to stop → (o : Option ℕ) → stop.station ≡ o → (c : Claim) → IsClaimInto all rows to c
      → IsClaimBy all rows (TheStop to) to c ⊎ IsStopClaim all rows o to c
  stop_cases stop at o is c (inl (row, is_in, h), to_is) = by_index row.to refl
    where
      own : (station : ℕ) → station_of all to ≡ Some station → (o : Option ℕ) → stop.station ≡ o → row.to ≡ TheStation station → IsStopClaim all rows o to c
      own station its None is index = absurd (none-some station (sym is ∙ sym (ap (λ (o : Option Stop). station_in o) at) ∙ its))
      own station its (Some other) is index =
          let same : other ≡ station = same_Some other station (sym is ∙ sym (ap (λ (o : Option Stop). station_in o) at) ∙ its) in
          inl (inl (by_back c row is_in h to_is (TheStation other) (index ∙ ap (λ (n : ℕ). TheStation n) (sym same))))

      by_index : (index : TransferEnd) → row.to ≡ index → IsClaimBy all rows (TheStop to) to c ⊎ IsStopClaim all rows o to c
      by_index (TheStop named) index =
          let stands : (named == c.to) ≡ true = subst (λ (p : TransferEnd). stands_for all p c.to ≡ true) index h.to_stands in
          inl (by_back c row is_in h to_is (TheStop to) (index ∙ ap (λ (n : ℕ). TheStop n) (eqb-true named c.to stands ∙ to_is)))
      by_index (TheStation station) index =
          let stands : is_child all station c.to ≡ true = subst (λ (p : TransferEnd). stands_for all p c.to ≡ true) index h.to_stands in
          inr (own station (subst (λ (n : ℕ). station_of all n ≡ Some station) to_is (station_is (station_of all c.to) station stands)) o is index)
  stop_cases stop at None is c (inr (inl h), to_is) =
      let none : station_of all c.to ≡ None = ap (λ (n : ℕ). station_of all n) to_is ∙ ap (λ (o : Option Stop). station_in o) at ∙ is in
      absurd (false≢true (subst (λ (o : Option ℕ). is_of all o c.from ≡ true) none h.siblings))
  stop_cases stop at (Some station) is c (inr (inl h), to_is) =
      let its : station_of all c.to ≡ Some station = ap (λ (n : ℕ). station_of all n) to_is ∙ ap (λ (o : Option Stop). station_in o) at ∙ is in
      inr (inl (inr (record {
        child = subst
            (λ (o : Option ℕ). is_of all o c.from ≡ true) its h.siblings;
        to_is = to_is;
        differ = h.differ;
        source_is = h.source_is;
        verdict_is = h.verdict_is;
      })))
  stop_cases stop at None is c (inr (inr h), to_is) =
      inr (record { to_is = to_is; from_is = h.loop ∙ to_is; source_is = h.source_is; verdict_is = h.verdict_is })
  stop_cases stop at (Some station) is c (inr (inr h), to_is) = inr (inr (record {
    to_is = to_is;
    from_is = h.loop
        ∙ to_is;
    source_is = h.source_is;
    verdict_is = h.verdict_is;
  }))

  -- all that is claimed of the ways into a stop of the feed
  pub adds_ways : (stop : Stop) (old mid new : List Claim) → At all to stop → Adds old mid (Unbanned all rows (IsClaimBy all rows (TheStop to) to))
      → Adds mid new (Unbanned all rows (IsStopClaim all rows stop.station to)) → Adds old new (Unbanned all rows (IsClaimInto all rows to))
  adds_ways stop old mid new at first second = unbanned_then (IsBannedClaim all rows) old mid new (IsClaimBy all rows (TheStop to) to)
      (IsStopClaim all rows stop.station to)
      (IsClaimInto all rows to)
      (λ c h. by_there (TheStop to) c (own_equal to) h)
      (λ c h. stop_there stop at stop.station refl c h)
      (λ c h. stop_cases stop at stop.station refl c h)
      first second

  -- into a stop that the feed hasn't, transfers to that stop alone claim it
  pub adds_no_stop : (old new : List Claim) → slice_get all to ≡ None → Adds old new (Unbanned all rows (IsClaimBy all rows (TheStop to) to))
      → Adds old new (Unbanned all rows (IsClaimInto all rows to))
  adds_no_stop old new none h = unbanned_same (IsBannedClaim all rows) old new (IsClaimBy all rows (TheStop to) to) (IsClaimInto all rows to)
      (λ c h. by_there (TheStop to) c (own_equal to) h)
      back h
    where
      no_station : (c : Claim) → c.to ≡ to → station_of all c.to ≡ None
      no_station c to_is = ap (λ (n : ℕ). station_of all n) to_is ∙ ap (λ (o : Option Stop). station_in o) none

      back : (c : Claim) → IsClaimInto all rows to c → IsClaimBy all rows (TheStop to) to c
      back c (inl (row, is_in, h), to_is) = by_index row.to refl
        where
          by_index : (index : TransferEnd) → row.to ≡ index → IsClaimBy all rows (TheStop to) to c
          by_index (TheStop named) index =
              let stands : (named == c.to) ≡ true = subst (λ (p : TransferEnd). stands_for all p c.to ≡ true) index h.to_stands in
              by_back c row is_in h to_is (TheStop to) (index ∙ ap (λ (n : ℕ). TheStop n) (eqb-true named c.to stands ∙ to_is))
          by_index (TheStation station) index =
              let stands : is_child all station c.to ≡ true = subst (λ (p : TransferEnd). stands_for all p c.to ≡ true) index h.to_stands in
              absurd (none-some station (sym (no_station c to_is) ∙ station_is (station_of all c.to) station stands))
      back c (inr (inl h), to_is) = absurd (false≢true (subst (λ (o : Option ℕ). is_of all o c.from ≡ true) (no_station c to_is) h.siblings))
      back c (inr (inr h), to_is) =
          let (x, at) = at_below all to (subst (λ (n : ℕ). n < length all) to_is h.below) in
          absurd (none-some x (sym none ∙ at))

-- the stops of a station are what it stands for
pub station_stands : (all : List Stop) (station : ℕ) (stops : List ℕ) → AreChildren all station stops → AreStoodFor all (TheStation station) stops
station_stands all station stops h = record { stand = h.has; each = h.each }
