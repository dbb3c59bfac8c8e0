-- Claims are about stops that the feed has or that its transfers name, and each stop has a loop.
use Rattle.std.proofs.Common.{◌≡◌, ℕ, ◌+◌, ◌<◌, ◌≤◌, inl, inr, List, length, take, get_or, All, Bool, true, Option, Some, None, refl, sym, ap}
use Rattle.std.proofs.Common.{subst, ◌∙◌, arith}
use Rattle.std.specs.List.{slice_get}
use Rattle.std.proofs.lemmas.Option.{none-some, same_Some, slice_get_within}
use Rattle.std.proofs.lemmas.Bool.{eqb-true, eq-eqb, lt-ltb, false≢true}
use Rattle.std.proofs.lemmas.List.{take_all}
use Rattle.std.proofs.lemmas.List.Elements.{All-contains, All-more, All-weaker}
use Rattle.timetable.specs.First.{or_else}
use Rattle.gtfs_rows.specs.declared.rows.TransferKind.{TransferKind}
use Rattle.gtfs_rows.specs.declared.rows.TransferKind.TheVariants.{Recommended, Timed, Minimum, Impossible, Skipped}
use Rattle.gtfs_tables.specs.declared.tables.Feed.{Feed}
use Rattle.gtfs_tables.specs.declared.tables.Stop.{Stop}
use Rattle.gtfs_tables.specs.declared.tables.Transfer.{Transfer}
use Rattle.gtfs_tables.specs.declared.tables.TransferEnd.{TransferEnd}
use Rattle.gtfs_tables.specs.declared.tables.TransferEnd.TheVariants.{Stop as TheStop, Station as TheStation}
use Rattle.transfers.specs.declared.claims.Source.TheVariants.{Stops, Station}
use Rattle.transfers.specs.declared.claims.Verdict.{Verdict}
use Rattle.transfers.specs.declared.claims.Verdict.TheVariants.{Never, Takes}
use Rattle.transfers.specs.declared.claims.Claim.{Claim}
use Rattle.transfers.specs.Listed.{NamesBelow, stands_for, station_of, station_in, is_child, is_of}
use Rattle.transfers.specs.Listed.{verdict_by, verdict_of, given_or, claimed_by, default_verdict}
use Rattle.transfers.specs.Listed.{verdict_between, secs_of, listed_secs}
use Rattle.transfers.specs.Claims.{IsClaim}
use Rattle.transfers.specs.Lookup.{EndsBelow}
use Rattle.transfers.proofs.ClaimLemmas.{station_is, claim_of}
use Rattle.transfers.proofs.VerdictLemmas.{claim_between, first_claimed, claimed_claim}

-- a child is a stop of the list
has_stop : (all : List Stop) (stop station : ℕ) → station_of all stop ≡ Some station → stop < length all
has_stop all stop station is = by (slice_get all stop) refl is
  where
    by : (o : Option Stop) → slice_get all stop ≡ o → station_in o ≡ Some station → stop < length all
    by None e is = absurd (none-some station is)
    by (Some x) e is = slice_get_within all stop x e

child_below : (stops : List Stop) (station stop : ℕ) → is_child stops station stop ≡ true → stop < length stops
child_below stops station stop e = has_stop stops stop station (station_is (station_of stops stop) station e)

-- so is a stop that a place stands for, or it is one that the place names
stood_below : (stops : List Stop) (end : ℕ) → length stops ≤ end → (index : TransferEnd) (stop : ℕ) → NamesBelow end index → stands_for stops index stop ≡ true
    → stop < end
stood_below stops end fits (TheStop named) stop below e = let same : named ≡ stop = eqb-true named stop e in subst (λ (n : ℕ). n < end) same below
stood_below stops end fits (TheStation station) stop below e = let inside : stop < length stops = child_below stops station stop e in omega
    (arith, inside, fits)

sibling_below : (stops : List Stop) (to from : ℕ) (o : Option ℕ) → station_of stops to ≡ o → is_of stops o from ≡ true
    → (from < length stops) × (to < length stops)
sibling_below stops to from None e h = absurd (false≢true h)
sibling_below stops to from (Some station) e h = (child_below stops station from h, has_stop stops to station e)

-- what the feed claims is of stops below a number that is above all of them
claim_below : (feed : Feed) (end : ℕ) → EndsBelow feed end → (c : Claim) → IsClaim feed.stops.items feed.transfers.items c → (c.from < end) × (c.to < end)
claim_below feed end ends c (inl (row, is_in, h)) =
    let below = All-contains (λ (row : Transfer). NamesBelow end row.from × NamesBelow end row.to) feed.transfers.items row ends.named is_in in (
      stood_below feed.stops.items end ends.stops row.from c.from below.0 h.from_stands,
      stood_below feed.stops.items end ends.stops row.to c.to below.1
          h.to_stands,
    )
claim_below feed end ends c (inr (inl h)) =
    let below = sibling_below feed.stops.items c.to c.from (station_of feed.stops.items c.to) refl h.siblings in
    (omega (arith, below.0, ends.stops), omega (arith, below.1, ends.stops))
claim_below feed end ends c (inr (inr h)) =
    let below : c.to < end = omega (arith, h.below, ends.stops) in
    (omega (arith, below, h.loop), below)

pub secs_given : (o : Option Verdict) (secs : ℕ) → secs_of o ≡ Some secs → o ≡ Some (Takes secs)
secs_given None secs e = absurd (none-some secs e)
secs_given (Some Never) secs e = absurd (none-some secs e)
secs_given (Some (Takes n)) secs e = ap (λ (m : ℕ). let w : Verdict = Takes m in Some w) (same_Some n secs e)

-- and so is what it lists
pub listed_below : (feed : Feed) (end : ℕ) → EndsBelow feed end → (from to secs : ℕ) → listed_secs feed from to ≡ Some secs → (from < end) × (to < end)
listed_below feed end ends from to secs is =
    let (d, claim, d_to, d_from) = claim_between feed from to (Takes secs) (secs_given (verdict_between feed from to) secs is) in
    let below = claim_below feed end ends d claim in
    (omega (arith, below.0, d_from), omega (arith, below.1, d_to))

-- no transfer keeps a stop apart from itself
loop_verdict : (kind : TransferKind) (given : Option ℕ) (w : Verdict) → verdict_by kind given true ≡ Some w → (n : ℕ) × (w ≡ Takes n)
loop_verdict Recommended given w e = (given_or given 0, sym (same_Some (Takes (given_or given 0)) w e))
loop_verdict Timed given w e = (given_or given 0, sym (same_Some (Takes (given_or given 0)) w e))
loop_verdict Minimum given w e = (given_or given 120, sym (same_Some (Takes (given_or given 120)) w e))
loop_verdict Impossible given w e = absurd (none-some w e)
loop_verdict Skipped given w e = absurd (none-some w e)

-- what is claimed of a loop is a time
pub loop_takes : (stops : List Stop) (rows : List Transfer) (c : Claim) → IsClaim stops rows c → c.from ≡ c.to → (n : ℕ) × (c.verdict ≡ Takes n)
loop_takes stops rows c (inl (row, is_in, h)) loop =
    loop_verdict row.kind row.seconds c.verdict (ap (λ (b : Bool). verdict_of row b) (sym (eq-eqb c.from c.to loop)) ∙ h.verdict_is)
loop_takes stops rows c (inr (inl h)) loop = (120, h.verdict_is)
loop_takes stops rows c (inr (inr h)) loop = (0, h.verdict_is)

-- each stop of the feed has a listed loop
pub loop_listed : (feed : Feed) (stop : ℕ) → stop < length feed.stops.items → (secs : ℕ) × (listed_secs feed stop stop ≡ Some secs)
loop_listed feed stop below = by_stops (claimed_by feed.stops.items Stops stop stop feed.transfers.items) refl
  where
    time_of : (w : Verdict) → (n : ℕ) × (w ≡ Takes n) → (secs : ℕ) × (secs_of (Some w) ≡ Some secs)
    time_of w (n, is) = (n, ap (λ (v : Verdict). let o : Option Verdict = Some v in secs_of o) is)

    otherwise : default_verdict feed.stops.items stop stop ≡ Some (Takes 0)
    otherwise = rw (eq-eqb stop stop refl) (rw (lt-ltb stop (length feed.stops.items) below) refl)

    by_station : (o : Option Verdict) → claimed_by feed.stops.items Station stop stop feed.transfers.items ≡ o
        → (secs : ℕ) × (secs_of (or_else o (default_verdict feed.stops.items stop stop)) ≡ Some secs)
    by_station (Some w) is = time_of w (loop_takes feed.stops.items feed.transfers.items (claim_of stop stop Station w)
        (claimed_claim feed Station stop stop w ((first_claimed feed.stops.items Station stop stop feed.transfers.items).something w is)) refl)
    by_station None is = (0, ap (λ (o : Option Verdict). secs_of o) otherwise)

    by_stops : (o : Option Verdict) → claimed_by feed.stops.items Stops stop stop feed.transfers.items ≡ o
        → (secs : ℕ) × (secs_of (or_else o (or_else (claimed_by feed.stops.items Station stop stop feed.transfers.items)
        (default_verdict feed.stops.items stop stop))) ≡ Some secs)
    by_stops (Some w) is = time_of w (loop_takes feed.stops.items feed.transfers.items (claim_of stop stop Stops w)
        (claimed_claim feed Stops stop stop w ((first_claimed feed.stops.items Stops stop stop feed.transfers.items).something w is)) refl)
    by_stops None is = by_station (claimed_by feed.stops.items Station stop stop feed.transfers.items) refl

-- a greater number is above a stop that a place names too
names_more : (index : TransferEnd) (end more : ℕ) → end ≤ more → NamesBelow end index → NamesBelow more index
names_more (TheStop stop) end more le below = omega (arith, le, below)
names_more (TheStation station) end more le below = tt

abbrev pub NamedBelow : ℕ → Transfer → Type 0
NamedBelow end row = NamesBelow end row.from × NamesBelow end row.to

-- one transfer more
pub named_more : (rows : List Transfer) (i end more most : ℕ) (d : Transfer) → i < length rows → end ≤ more → more ≤ most → All (NamedBelow end) (take i rows)
    → NamesBelow more (get_or rows i d).from → NamesBelow most (get_or rows i d).to → All (NamedBelow most) (take (i + 1) rows)
named_more rows i end more most d below le le_most named from to =
    All-more (NamedBelow most) rows i d below
    (All-weaker (NamedBelow end) (NamedBelow most)
    (λ row h. (names_more row.from end most (omega (arith, le, le_most)) h.0, names_more row.to end most (omega (arith, le, le_most)) h.1))
    (take i rows) named)
    (names_more (get_or rows i d).from more most le_most from, to)

pub named_all : (rows : List Transfer) (i end : ℕ) → i ≡ length rows → All (NamedBelow end) (take i rows) → All (NamedBelow end) rows
named_all rows i end all named = subst (λ (xs : List Transfer). All (NamedBelow end) xs) (take_all i rows (omega (arith, all))) named
