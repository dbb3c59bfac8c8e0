-- The listed footpaths of a feed, and their closure.
use Rattle.std.proofs.Common.{[], length, ◌∷◌, Contains, refl, ◌≡◌, ◌↔◌, ◌<◌, ◌⊎◌, ℕ, List, Result, Ok, Err, IfOk, IfErr, Some, inr, Vec}
use Rattle.std.proofs.Common.{inl, sym, subst, arith}
use Rattle.timetable.specs.Legal.{HasFootpath, AreInOrder}
use Rattle.timetable.specs.declared.limits.TheConstants.{MAX_FOOTPATHS, MAX_WALK_SECS}
use Rattle.timetable.specs.declared.network.Footpath.{Footpath}
use Rattle.gtfs_tables.specs.declared.tables.Feed.{Feed}
use Rattle.transfers.specs.Listed.{ListsMore, listed_secs}
use Rattle.footpaths.specs.Closure.{HasLoops, HasMorePairs, IsClosure, IsFault}
use Rattle.footpaths.specs.Walks.{AreJoined}
use Rattle.footpaths.specs.declared.fault.FootFault.{FootFault}
use Rattle.footpaths.specs.declared.fault.FootFault.TheVariants.{OutOfMemory, TooManyFootpaths, WalkTooLong}
use Rattle.feed_loader.specs.Loaded.{AreFeedPaths, IsFeedClosure}
use Rattle.feed_loader.specs.Refused.{IsTooLarge}

-- each stop's loop, whatever the number of stops is called
pub loops_of_stops : (listed paths : List Footpath) (stops count : ℕ) → stops ≡ count → paths ≡ listed
    → ((stop : ℕ) → stop < count → (secs : ℕ) × HasFootpath listed stop stop secs) → HasLoops paths stops
loops_of_stops listed paths stops count same lent loops =
    subst (λ (xs : List Footpath). HasLoops xs stops) (sym lent) (λ (s : ℕ) (below : s < stops). loops s (omega (arith, same, below)))

module _ {Z : Type 0} (feed : Feed) (listed paths : List Footpath) (result : Result (Vec Footpath Z) FootFault) (lent : paths ≡ listed)
    (times : (from to secs : ℕ) → HasFootpath listed from to secs ↔ (listed_secs feed from to ≡ Some secs)) (order : AreInOrder listed) where
  are_paths : AreFeedPaths feed paths
  are_paths = subst (λ (xs : List Footpath). AreFeedPaths feed xs) (sym lent) (record { times = times; in_order = order })

  pub closure_of_feed : IfOk result (λ v. IsClosure paths v.items) → IfOk result (λ v. IsFeedClosure feed v.items)
  closure_of_feed holds = closed result holds
    where
      closed : (r : Result (Vec Footpath Z) FootFault) → IfOk r (λ v. IsClosure paths v.items) → IfOk r (λ v. IsFeedClosure feed v.items)
      closed (Ok v) is = (paths, are_paths, is)
      closed (Err fault) is = is

  pub fault_of_feed : IfErr result (IsFault paths MAX_FOOTPATHS MAX_WALK_SECS)
      → IfErr result (λ fault. (fault ≡ OutOfMemory) ⊎ ((listed : List Footpath) × AreFeedPaths feed listed × IsTooLarge listed fault))
  fault_of_feed holds = refused result holds
    where
      refused : (r : Result (Vec Footpath Z) FootFault) → IfErr r (IsFault paths MAX_FOOTPATHS MAX_WALK_SECS)
          → IfErr r (λ fault. (fault ≡ OutOfMemory) ⊎ ((listed : List Footpath) × AreFeedPaths feed listed × IsTooLarge listed fault))
      refused (Ok v) is = is
      refused (Err OutOfMemory) is = inl refl
      refused (Err TooManyFootpaths) is = inr (paths, are_paths, (λ e. cc e, is))
      refused (Err WalkTooLong) is = inr (paths, are_paths, (λ e. cc e, is))

-- a walk over one listed footpath
one_step : (listed : List Footpath) (f : Footpath) → Contains listed f → AreJoined listed f.from f.to
one_step listed f there = (f ∷ [], record { leads = (there, refl, tt); some = λ none. cc; ends = refl })

many_listed : (listed : List Footpath) (most : ℕ) → AreInOrder listed → most < length listed → HasMorePairs listed most
many_listed listed most order many = (listed, record { in_order = order; joined = one_step listed; more = many })

-- where too many footpaths are listed, too many pairs are joined
pub too_many : (feed : Feed) → ListsMore feed MAX_FOOTPATHS
    → (TooManyFootpaths ≡ OutOfMemory) ⊎ ((listed : List Footpath) × AreFeedPaths feed listed × IsTooLarge listed TooManyFootpaths)
too_many feed h = inr (h.paths, record { times = h.times; in_order = h.in_order }, (λ e. cc e, many_listed h.paths MAX_FOOTPATHS h.in_order h.more))
