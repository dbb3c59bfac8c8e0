-- Orders that are met at once, from a list of feeds.
use Rattle.std.specs.Prelude.{◌≡◌, ℕ, List, bytes_eq, Option, Some, None, Result, Ok, Err, slice_get, string_bytes}
use Rattle.std.specs.Arc.{arc_value}
use Rattle.std.specs.List.{position, remove}
use Rattle.shelves.specs.declared.collected.Collected.{Collected}
use Rattle.shelves.specs.declared.faults.PublishFault.{PublishFault}
use Rattle.shelves.specs.declared.answers.LoaderAnswer.{LoaderAnswer}
use Rattle.shelves.specs.FaultNumber.{publish_fault_number}
use Rattle.shelves.specs.Seats.{ShowsCollection, ShowsPublish, ShowsRefusal}
use Rattle.orders.specs.Ordering.{OrderValue}
use Rattle.orders.specs.declared.fault.OrderFault.{OrderFault}
use Rattle.solo_orders.specs.declared.FeedImage.{FeedImage}
use Rattle.solo_orders.specs.declared.NotLoaded.{NotLoaded}

pub record SoloOrdersValue : Type 0 where
  pub feeds : List FeedImage  -- that weren't ordered yet
  pub answers : List LoaderAnswer  -- of the loader's seat so far
  pub asked : List OrderValue  -- all orders that were asked for, refused ones too

-- what a load changes: the feeds that weren't ordered yet, and the answers of the loader's seat so far
pub record FeedsState : Type 0 where
  pub feeds : List FeedImage
  pub answers : List LoaderAnswer

abbrev pub feeds_state : List FeedImage → List LoaderAnswer → FeedsState
feeds_state feeds answers = record { feeds = feeds; answers = answers }

-- where the first feed of the name stands
abbrev pub index_of : List ℕ → List FeedImage → Option ℕ
index_of name feeds = position (λ one. bytes_eq (string_bytes one.name) name) feeds

-- the first feed of the name leaves the list
pub record Leaves (name : List ℕ) (feeds : List FeedImage) (found : FeedImage) (others : List FeedImage) : Type 0 where
  pub index : ℕ
  pub first : index_of name feeds ≡ Some index
  pub is_there : slice_get feeds index ≡ Some found
  pub others_are : others ≡ remove feeds index

-- its image is published as this version, and then the shelves are collected
pub record IsLoadedAs (name : List ℕ) (a : FeedsState) (version : ℕ) (b : FeedsState) : Type 0 where
  pub found : FeedImage
  pub between : List LoaderAnswer
  pub collected : Collected
  pub leaves : Leaves name a.feeds found b.feeds
  pub publish : ShowsPublish a.answers (arc_value found.image) version between
  pub collect : ShowsCollection between collected b.answers

-- or the publish is refused
pub record IsRefusedSo (name : List ℕ) (a : FeedsState) (fault : PublishFault) (b : FeedsState) : Type 0 where
  pub found : FeedImage
  pub leaves : Leaves name a.feeds found b.feeds
  pub refused : ShowsRefusal a.answers fault b.answers

-- or no feed has the name, and nothing changes
pub record IsUnknown (name : List ℕ) (a b : FeedsState) : Type 0 where
  pub none : index_of name a.feeds ≡ None
  pub feeds_are : b.feeds ≡ a.feeds
  pub answers_are : b.answers ≡ a.answers

-- what a load does, by what came of it
abbrev pub LoadStep : {N : Type 0} → List ℕ → FeedsState → Result (ℕ × Option N) NotLoaded → FeedsState → Type 0
LoadStep name a (Ok loaded) b = IsLoadedAs name a loaded.0 b
LoadStep name a (Err NotLoaded.UnknownFeed) b = IsUnknown name a b
LoadStep name a (Err (NotLoaded.Refused fault)) b = IsRefusedSo name a fault b

-- what a load answers to whoever doesn't wait for its version: a refused publish is answered as a full queue
abbrev pub order_answer : {N : Type 0} → Result (ℕ × Option N) NotLoaded → Result (Unit {0}) OrderFault
order_answer (Ok loaded) = Ok tt
order_answer (Err NotLoaded.UnknownFeed) = Err OrderFault.UnknownFeed
order_answer (Err (NotLoaded.Refused fault)) = Err OrderFault.OrdersFull

-- what a published version answers to whoever waits for it: the version with its notice, or want of memory if there is no notice
abbrev pub notice_answer : {N : Type 0} → ℕ → Option N → Result (ℕ × N) OrderFault
notice_answer version (Some notice) = Ok (version, notice)
notice_answer version None = Err OrderFault.OutOfMemory

abbrev pub wait_answer : {N : Type 0} → Result (ℕ × Option N) NotLoaded → Result (ℕ × N) OrderFault
wait_answer (Ok loaded) = notice_answer loaded.0 loaded.1
wait_answer (Err NotLoaded.UnknownFeed) = Err OrderFault.UnknownFeed
wait_answer (Err (NotLoaded.Refused fault)) = Err (OrderFault.LoadRefused (publish_fault_number fault))

-- what an order does that nobody waits for, by its outcome
abbrev pub OrderStep : List ℕ → FeedsState → Result (Unit {0}) OrderFault → FeedsState → Type 0
OrderStep name a (Ok u) b = (version : ℕ) × IsLoadedAs name a version b
OrderStep name a (Err OrderFault.UnknownFeed) b = IsUnknown name a b
OrderStep name a (Err OrderFault.OrdersFull) b = (fault : PublishFault) × IsRefusedSo name a fault b
OrderStep name a (Err _) b = ⊥

-- what an order does that is waited for, by its outcome
abbrev pub WaitStep : {N : Type 0} → List ℕ → FeedsState → Result (ℕ × N) OrderFault → FeedsState → Type 0
WaitStep name a (Ok published) b = IsLoadedAs name a published.0 b
WaitStep name a (Err OrderFault.UnknownFeed) b = IsUnknown name a b
WaitStep name a (Err (OrderFault.LoadRefused refusal)) b =
    (fault : PublishFault) × (refusal ≡ publish_fault_number fault) × IsRefusedSo name a fault b
WaitStep name a (Err _) b = ⊥
