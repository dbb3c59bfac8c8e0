-- What contracts say of feeds, and of what comes of loading one: one record of words for each.
use Rattle.std.specs.Prelude.{ℕ, List, String}
use Rattle.std.specs.Global.{Global}
use Rattle.shelves.specs.Words.{LoaderWords}
use Rattle.feed_files.specs.Files.{FileWords}
use Rattle.feed_loader.specs.declared.plan.Plan.{Plan}

-- feeds: their names, by index; whether these are the files of the feed at an index; and whether a feed may be loaded by this plan
pub record FeedWords (F D : Type 0) : Type 1 where
  pub named : F → List (String Global)
  pub are_files : F → ℕ → D → Type 0
  pub is_plan : F → Plan → Type 0

-- what comes of a load: the feed's files, the loader's seat, and the version that a notice is of
pub record OutcomeWords (D T L N : Type 0) : Type 1 where
  pub files : FileWords D
  pub loader : LoaderWords T L
  pub version : N → ℕ

-- loads: the feeds, and what comes of loading one
pub record LoadWords (F D T L N : Type 0) : Type 1 where
  pub feeds : FeedWords F D
  pub outcomes : OutcomeWords D T L N

abbrev pub outcomes_of : {D T L N : Type 0} → FileWords D → LoaderWords T L → (N → ℕ) → OutcomeWords D T L N
outcomes_of files loader version = record { files = files; loader = loader; version = version }

abbrev pub loads_of : {F D T L N : Type 0} → FeedWords F D → OutcomeWords D T L N → LoadWords F D T L N
loads_of feeds outcomes = record { feeds = feeds; outcomes = outcomes }
