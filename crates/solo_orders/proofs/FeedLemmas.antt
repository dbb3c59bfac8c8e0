-- The first feed of a name, and what is said of its load.
use Rattle.std.proofs.Common.{◌≡◌, ◌<◌, ℕ, List, [], ◌∷◌, Option, Some, None, Result}
use Rattle.std.proofs.Common.{Ok, Err, IfErr, IfOk, MatchOption, length, refl, sym, bytes_eq, get_or, string_bytes}
use Rattle.std.specs.List.{remove}
use Rattle.std.proofs.lemmas.List.Quantifiers.{position-Some}
use Rattle.std.proofs.lemmas.Option.{slice_get_read}
use Rattle.solo_orders.specs.declared.FeedImage.{FeedImage}
use Rattle.solo_orders.specs.declared.NotLoaded.{NotLoaded}
use Rattle.solo_orders.specs.Feeds.{IsLoadedAs, IsRefusedSo, Leaves, feeds_state, index_of}
use Rattle.shelves.specs.declared.answers.LoaderAnswer.{LoaderAnswer}
use Rattle.orders.specs.Ordering.{IsNotTaken}
use Rattle.std.specs.Arc.{arc_value}
use Rattle.shelves.specs.Seats.{ShowsCollection, ShowsPublish, ShowsRefusal}
use Rattle.shelves.specs.declared.collected.Collected.{Collected}
use Rattle.shelves.specs.declared.faults.PublishFault.{PublishFault}

-- a place that is found is one of the list
pub is_within : (name : List ℕ) (feeds : List FeedImage) (index : ℕ) → Some index ≡ index_of name feeds → index < length feeds
is_within name [] index at = absurd cc
is_within name (feed ∷ feeds) index at = (position-Some (λ one. bytes_eq (string_bytes one.name) name) (feed ∷ feeds) index feed (sym at)).0

pub leaves : (name : List ℕ) (feeds : List FeedImage) (index : ℕ) (found : FeedImage) (others : List FeedImage)
    → Some index ≡ index_of name feeds → found ≡ get_or feeds index found
    → others ≡ remove feeds index → Leaves name feeds found others
leaves name feeds index found others at read gone =
    record {
      index = index;
      first = sym at;
      is_there =
          slice_get_read feeds (length feeds) index found refl (is_within name feeds index at) read;
      others_are = gone;
    }

pub loaded_as : (name : List ℕ) (feeds others : List FeedImage) (answers between answers_then : List LoaderAnswer)
    (version : ℕ) (found : FeedImage) (collected : Collected)
    → Leaves name feeds found others → ShowsPublish answers (arc_value found.image) version between → ShowsCollection between collected answers_then
    → IsLoadedAs name (feeds_state feeds answers) version (feeds_state others answers_then)
loaded_as name feeds others answers between answers_then version found collected gone publish collect =
    record { found = found; between = between; collected = collected; leaves = gone; publish = publish; collect = collect }

pub refused_so : (name : List ℕ) (feeds others : List FeedImage) (answers answers_then : List LoaderAnswer) (fault : PublishFault) (found : FeedImage)
    → Leaves name feeds found others → ShowsRefusal answers fault answers_then
    → IsRefusedSo name (feeds_state feeds answers) fault (feeds_state others answers_then)
refused_so name feeds others answers answers_then fault found gone refused = record { found = found; leaves = gone; refused = refused }
