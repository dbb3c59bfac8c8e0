use Rattle.std.proofs.Common.{◌≡◌, ◌↔◌, ◌+◌, ◌++◌, List, length, Contains, refl, sym, subst, OnOk, rules}
use Rattle.std.proofs.lemmas.Result.{on_ok_weaker}
use Rattle.timetable.specs.declared.network.Footpath.{Footpath}
use Rattle.transfers.specs.declared.claims.Claim.{Claim}
use Rattle.transfers.specs.Bans.{Unbanned}
use Rattle.transfers.specs.Claims.{AreSorted, IsClaimInto}
use Rattle.transfers.specs.Listed.{AreListed, LeadBelow}
use Rattle.transfers.proofs.OrderLemmas.{sorted_claims}
use Rattle.transfers.proofs.FinalLemmas.{moved_claims, ways_listed}
use Rattle.transfers.proofs.CountingLemmas.{same_listed, still_named}
use Rattle.transfers.proofs.ListedLemmas.{listed_next}
use Rattle.gtfs_tables.specs.declared.tables.Feed.{Feed}
use Rattle.transfers.proofs.listing.add_ways.Goals as goal

pub paths_of-requires : goal.paths_of-requires
paths_of-requires c =
    subst (λ (claims : List Claim). AreSorted claims) (sym c.deref.ensures.value) (sorted_claims c.sort.new.self.items c.in_ok-sort.ensures.sorted)

pub returns : goal.returns
returns c = λ before.
    let stops = c.args.known.now.feed.now.stops.items in
    let rows = c.args.known.now.lookup.now.transfers.items in
    let counting : Feed = record (c.args.known.now.feed.now) {
      transfers = c.args.known.now.lookup.now.transfers;
      named = still_named (length stops) c.args.known.now.feed.now.transfers.items rows c.requires.counting c.args.known.now.feed.now.named;
    } in
    let claims = c.deref.result.now in
    let sorted : AreSorted claims = subst
    (λ (claims : List Claim). AreSorted claims) (sym c.deref.ensures.value) (sorted_claims c.sort.new.self.items c.in_ok-sort.ensures.sorted) in
    let all : (x : Claim) → Contains claims x ↔ Unbanned stops rows (IsClaimInto stops rows c.args.to) x = λ x. subst
    (λ (xs : List Claim). Contains xs x ↔ Unbanned stops rows (IsClaimInto stops rows c.args.to) x) (sym c.deref.ensures.value)
    (moved_claims c.new.result.items c.add_ways.new.self.made.items c.sort.new.self.items
    (Unbanned stops rows (IsClaimInto stops rows c.args.to)) c.new.ensures.items c.in_ok-add_ways.ensures c.in_ok-sort.ensures.permutation x) in
    let ways : AreListed c.args.known.now.feed.now (λ a b. b ≡ c.args.to) c.in_ok-ways.ways.items =
    same_listed c.args.known.now.feed.now counting refl c.requires.counting (λ a b. b
    ≡ c.args.to) c.in_ok-ways.ways.items (ways_listed counting c.args.to claims c.in_ok-ways.ways.items sorted all
    c.in_ok-ways.ensures.paths c.in_ok-ways.ensures.order) in
    let next : AreListed c.args.known.now.feed.now (LeadBelow (c.args.to + 1))
    (c.args.paths.now.items ++ c.in_ok-ways.ways.items) = listed_next c.args.known.now.feed.now c.args.to c.args.paths.now.items c.in_ok-ways.ways.items before
    ways in
    let added : OnOk c.extend_from_slice.result (c.extend_from_slice.new.self.items ≡ c.args.paths.now.items ++ c.in_ok-ways.ways.items) = search rules in
    on_ok_weaker c.extend_from_slice.result (λ is.
    subst (λ (xs : List Footpath). AreListed c.args.known.now.feed.now (LeadBelow (c.args.to + 1)) xs) (sym is)
    next) added
