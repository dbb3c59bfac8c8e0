-- A feed's files that are drawn for an order.
use Rattle.std.specs.Prelude.{◌≡◌, List, [], Option, Result}
use Rattle.feed_files.specs.Files.{FileWords}
use Rattle.feed_loader.specs.declared.plan.Plan.{Plan}
use Rattle.load_orders.specs.Keeping.{OrderQueueId}
use Rattle.load_orders.specs.declared.queue.Order.{Order}
use Rattle.feed_loads.specs.Loading.{IsLoadOutcome, load_state}
use Rattle.feed_loads.specs.Words.{OutcomeWords}
use Rattle.feed_loads.specs.declared.drawing.DrawnFiles.{DrawnFiles}
use Rattle.feed_loads.specs.declared.loading.LoadedVersion.{LoadedVersion}
use Rattle.feed_loads.specs.declared.refusal.LoadRefusal.{LoadRefusal}

-- the files were drawn when just these orders had been taken from this queue
abbrev pub IsDrawnAt : {D N : Type 0} → OrderQueueId N → List (Order N) → DrawnFiles D N → Type 0
IsDrawnAt queue taken drawn = (drawn.end.value.queue ≡ queue) × (drawn.end.value.taken ≡ taken)

-- the files are as they were drawn, and no read of them failed
pub record AreUnread {D N : Type 0} (words : FileWords D) (drawn : DrawnFiles D N) : Type 0 where
  pub as_drawn : drawn.files ≡ drawn.first.value
  pub none_failed : words.failed drawn.files ≡ []

-- drawn files, and the loader's seat, are loaded by this plan: what comes of the files as they were drawn; when they were drawn stays as it was
pub record AreLoadedBy {D T L N : Type 0} (words : OutcomeWords D T L N) (plan : Plan) (a : DrawnFiles D N × L)
    (outcome : Result (LoadedVersion × Option N) LoadRefusal) (b : DrawnFiles D N × L) : Type 0 where
  pub first : b.0.first ≡ a.0.first
  pub end : b.0.end ≡ a.0.end
  pub comes : IsLoadOutcome words plan (load_state b.0.first.value a.1) outcome (load_state b.0.files b.1)
